-- The list of the stands to which a path leads has exactly those to which a walk by it comes.
use Rattle.std.proofs.Common.{◌≡◌, inl, inr, ◌↔◌, ℕ, ◌==◌, ◌&&◌, ◌||◌, not, true, false, Bool, List, [], ◌∷◌, ◌++◌}
use Rattle.std.proofs.Common.{length, eq-eqb, Option, Some, None, refl, ap, subst, sym, ◌∙◌}
use Rattle.std.proofs.lemmas.Bool.{eqb-true}
use Rattle.std.proofs.Math.Dec.{eqb-suc-zero}
use Rattle.std.specs.Prelude.{flat_map, if◌then◌else◌, IsTrue}
use Rattle.std.specs.List.{list_any}
use Rattle.tal_tree.specs.declared.program.Program.{Program}
use Rattle.path_semantics.specs.declared.reason.Reason.{Reason}
use Rattle.path_semantics.specs.Place.{Stand, successors, first_stand}
use Rattle.gd_words.specs.Members.{IsAmong}
use Rattle.gd_words.proofs.Among.{among-given, among-giver}
use Rattle.path_semantics.specs.Path.{number_at, Steps, Walks, Leads, IsPath}
use Rattle.path_semantics.specs.Break.{Breaks, breaks_at}
use Rattle.path_semantics.specs.Reached.{is_number, is_next, stepped, reached_from, reached, breaks_next}

number-is : (number : ℕ) (next : Option ℕ) → is_number number next ≡ true → next ≡ Some number
number-is number None is = absurd (cc)
number-is number (Some next) is = ap Some (eqb-true next number is)

is-number : (number : ℕ) (next : Option ℕ) → next ≡ Some number → is_number number next ≡ true
is-number number None is = absurd (cc)
is-number number (Some next) is = eq-eqb next number (let same : next ≡ number = cc in same)

step-if : (program : Program) (number : ℕ) (here there : Stand) (b : Bool) → is_next number here ≡ b
    → IsAmong there (if b then successors program here else []) → Steps program here number there
step-if program number here there true is among = record { next = number-is number (number_at here) is; leads = among }
step-if program number here there false is among = absurd among

step-is : (program : Program) (number : ℕ) (here there : Stand) → IsAmong there (stepped program number here)
    → Steps program here number there
step-is program number here there among = step-if program number here there (is_next number here) refl among

is-step : (program : Program) (number : ℕ) (here there : Stand) → Steps program here number there
    → IsAmong there (stepped program number here)
is-step program number here there step =
    subst (λ (b : Bool). IsAmong there (if b then successors program here else []))
    (sym (is-number number (number_at here) step.next)) step.leads

-- what is reached from stands is where a walk from one of them comes
pub reached-walks : (program : Program) (path : List ℕ) (stands : List Stand) (there : Stand)
    → IsAmong there (reached_from program stands path)
    → (here : Stand) × IsAmong here stands × Walks program here path there
reached-walks program [] stands there among = (there, among, refl)
reached-walks program (number ∷ path) stands there among =
    let later = reached-walks program path (flat_map (stepped program number) stands) there among in
    let found = among-giver (stepped program number) later.0 stands later.1 in
    (found.0, found.1, (later.0, step-is program number found.0 later.0 found.2, later.2))

pub walks-reached : (program : Program) (path : List ℕ) (stands : List Stand) (here there : Stand)
    → IsAmong here stands → Walks program here path there
    → IsAmong there (reached_from program stands path)
walks-reached program [] stands here there among same = subst (λ (s : Stand). IsAmong s stands) same among
walks-reached program (number ∷ path) stands here there among walk =
    walks-reached program path (flat_map (stepped program number) stands) walk.0 there
    (among-given (stepped program number) here walk.0 stands among (is-step program number here walk.0 walk.1)) walk.2

first-only : {A : Type 0} (x y : A) → IsAmong x (y ∷ []) → x ≡ y
first-only x y (inl same) = same
first-only x y (inr among) = absurd among

pub reached-leads : (program : Program) (path : List ℕ) (there : Stand) → IsAmong there (reached program path)
    → Leads program path there
reached-leads program path there among =
    let found = reached-walks program path (first_stand program ∷ []) there among in
    subst (λ (s : Stand). Walks program s path there) (first-only found.0 (first_stand program) found.1) found.2

pub leads-reached : (program : Program) (path : List ℕ) (there : Stand) → Leads program path there
    → IsAmong there (reached program path)
leads-reached program path there walk =
    walks-reached program path (first_stand program ∷ []) (first_stand program) there (inl refl) walk

some-first : {A : Type 0} (xs : List A) → not (length xs == 0) ≡ true → (x : A) × IsAmong x xs
some-first [] filled = absurd (cc)
some-first (x ∷ xs) filled = (x, inl refl)

first-some : {A : Type 0} (x : A) (xs : List A) → IsAmong x xs → not (length xs == 0) ≡ true
first-some x [] among = absurd among
first-some x (y ∷ xs) among = ap not (eqb-suc-zero (length xs))

pub path-if : (program : Program) (path : List ℕ)
    → IsTrue (not (length (reached program path) == 0)) ↔ IsPath program path
path-if program path = (
  λ filled. let found =
      some-first (reached program path) filled in (found.0, reached-leads program path found.0 found.1),
  λ is. first-some is.0 (reached program path) (leads-reached program path is.0 is.1),
)

any-more : {A : Type 0} (p : A → Bool) (x : A) (xs : List A) (b : Bool) → p x ≡ b → (b || list_any p xs) ≡ true
    → (list_any p xs ≡ true → (y : A) × IsAmong y xs × (p y ≡ true)) → (y : A) × IsAmong y (x ∷ xs) × (p y ≡ true)
any-more p x xs true is any later = (x, inl refl, is)
any-more p x xs false is any later = let found = later any in (found.0, inr found.1, found.2)

any-one : {A : Type 0} (p : A → Bool) (xs : List A) → list_any p xs ≡ true → (x : A) × IsAmong x xs × (p x ≡ true)
any-one p [] any = absurd (cc)
any-one p (x ∷ xs) any = any-more p x xs (p x) refl any (λ later. any-one p xs later)

or-right : (a b : Bool) → b ≡ true → (a || b) ≡ true
or-right true b is = refl
or-right false b is = is

one-any : {A : Type 0} (p : A → Bool) (x : A) (xs : List A) → IsAmong x xs → p x ≡ true → list_any p xs ≡ true
one-any p x [] among is = absurd among
one-any p x (y ∷ xs) (inl same) is = ap (λ b. b || list_any p xs) (ap p (sym same) ∙ is)
one-any p x (y ∷ xs) (inr among) is = or-right (p y) (list_any p xs) (one-any p x xs among is)

nothing-last : {A : Type 0} (ys : List A) (y : A) → [] ≡ ys ++ y ∷ [] → ⊥
nothing-last [] y same = cc
nothing-last (z ∷ ys) y same = cc

-- lists with a last item are equal only where both parts are
pub last-same : {A : Type 0} (xs ys : List A) (x y : A) → xs ++ x ∷ [] ≡ ys ++ y ∷ [] → (xs ≡ ys) × (x ≡ y)
last-same [] [] x y same = (refl, cc)
last-same [] (z ∷ ys) x y same = absurd (nothing-last ys y (cc))
last-same (z ∷ xs) [] x y same = absurd (nothing-last xs x (cc))
last-same (z ∷ xs) (w ∷ ys) x y same =
    let heads : z ≡ w = cc in
    let tails : xs ++ x ∷ [] ≡ ys ++ y ∷ [] = cc in
    let both = last-same xs ys x y tails in (cc, both.1)

both-true : (a b : Bool) → (a && b) ≡ true → (a ≡ true) × (b ≡ true)
both-true true true is = (refl, refl)
both-true true false is = absurd (cc)
both-true false b is = absurd (cc)

true-both : (a b : Bool) → a ≡ true → b ≡ true → (a && b) ≡ true
true-both a b first second = ap (λ c. c && b) first ∙ second

pub breaks-if : (program : Program) (front : List ℕ) (last : ℕ) (reason : Reason)
    → IsTrue (list_any (breaks_next program reason last) (reached program front))
    ↔ Breaks program (front ++ last ∷ []) reason
breaks-if program front last reason = (
  λ any.
      let found = any-one (breaks_next program reason last) (reached program front) any in
      let both = both-true (is_next last found.0) (breaks_at program reason found.0) found.2 in
      record {
        front = front;
        number = last;
        stand = found.0;
        split = refl;
        leads = reached-leads program front found.0 found.1;
        next = number-is last (number_at found.0) both.0;
        breaks = both.1;
      },
  λ broken.
      let same = last-same front broken.front last broken.number broken.split in
      one-any (breaks_next program reason last) broken.stand (reached program front)
      (leads-reached program front broken.stand
      (subst (λ (path : List ℕ). Leads program path broken.stand) (sym same.0) broken.leads))
      (true-both (is_next last broken.stand) (breaks_at program reason broken.stand)
      (is-number last (number_at broken.stand) (broken.next ∙ ap Some (sym same.1))) broken.breaks),
)

pub nothing-breaks : (program : Program) (reason : Reason) → Breaks program [] reason → ⊥
nothing-breaks program reason broken = nothing-last broken.front broken.number broken.split

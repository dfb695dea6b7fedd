-- Actors, and acts that keep their turns.
use Rattle.std.proofs.Common.{◌≡◌, Bool, true, false, ◌||◌, if◌then◌else◌, List, [], ◌∷◌, ◌++◌}
use Rattle.std.proofs.Common.{refl, ap, sym, ◌∙◌}
use Rattle.std.specs.List.{filter, list_any}
use Rattle.std.proofs.lemmas.Bool.{eq-eqb, eqb-true}
use Rattle.std.proofs.lemmas.List.Elements.{filter-append}
use Rattle.tal_tree.specs.declared.act.Act.{Act}
use Rattle.tal_tree.specs.declared.act.Act.TheVariants.{Step, Take, Enter, Print}
use Rattle.unfailing_judge.specs.Turns.{HasTurn, KeepsTurns, is_of_process, is_of_terminal, is_same_actor}
use Rattle.order_laws.proofs.Deeds.{Actor, OfProcess, OfTerminal, actor_of}

abbrev is_by : Actor → Act → Bool
is_by (OfProcess number) act = is_of_process number act
is_by (OfTerminal terminal) act = is_of_terminal terminal act

actor-is : (one act : Act) → is_same_actor one act ≡ is_by (actor_of one) act
actor-is (Step number) act = refl
actor-is (Take number place) act = refl
actor-is (Enter terminal) act = refl
actor-is (Print terminal) act = refl

own-actor : (act : Act) → is_by (actor_of act) act ≡ true
own-actor (Step number) = eq-eqb number number refl
own-actor (Take number place) = eq-eqb number number refl
own-actor (Enter terminal) = eq-eqb terminal terminal refl
own-actor (Print terminal) = eq-eqb terminal terminal refl

pub itself : (act : Act) → is_same_actor act act ≡ true
itself act = actor-is act act ∙ own-actor act

true-false : true ≡ false → ⊥
true-false e = cc

pub other-actor : (one act : Act) → is_same_actor one act ≡ false → actor_of one ≡ actor_of act → ⊥
other-actor one act apart same =
    true-false (sym (own-actor act) ∙ ap (λ (actor : Actor). is_by actor act) (sym same) ∙ sym (actor-is one act)
    ∙ apart)

-- none of these acts is of its actor
pub turn-head : (act one : Act) (rest : List Act) → HasTurn (one ∷ rest) act
    → (is_same_actor act one ≡ false) × HasTurn rest act
turn-head act one rest turn = by (is_same_actor act one) (list_any (is_same_actor act) rest) turn
  where
    by : (first later : Bool) → (first || later) ≡ false → (first ≡ false) × (later ≡ false)
    by true later e = absurd (cc)
    by false later e = (refl, e)

-- acts with the first one that a test takes
pub record HasFirst (test : Act → Bool) (first : Act) (rest all : List Act) : Type 0 where
  pub before : List Act
  pub after : List Act
  pub there : all ≡ before ++ first ∷ after
  pub none : list_any test before ≡ false
  pub left : filter test after ≡ rest

head-is : {x y : Act} {xs ys : List Act} → x ∷ xs ≡ y ∷ ys → x ≡ y
head-is e = cc

tail-is : {x y : Act} {xs ys : List Act} → x ∷ xs ≡ y ∷ ys → xs ≡ ys
tail-is e = cc

pub first-of : (test : Act → Bool) (first : Act) (rest all : List Act) → filter test all ≡ first ∷ rest
    → HasFirst test first rest all
first-of test first rest [] e = absurd (cc)
first-of test first rest (act ∷ all) e = by (test act) refl e (first-of test first rest all)
  where
    by : (is : Bool) → test act ≡ is
        → (if is then act ∷ filter test all else filter test all) ≡ first ∷ rest
        → (filter test all ≡ first ∷ rest → HasFirst test first rest all) → HasFirst test first rest (act ∷ all)
    by true is e later = record {
      before = [];
      after = all;
      there = ap (λ (x : Act). x ∷ all) (head-is e);
      none = refl;
      left = tail-is e;
    }
    by false is e later =
        let found = later e in record {
          before = act ∷ found.before;
          after = found.after;
          there = ap (λ (xs : List Act). act ∷ xs) found.there;
          none = ap (λ (b : Bool). b || list_any test found.before) is ∙ found.none;
          left = found.left;
        }

-- none is taken of acts that a test doesn't take
none-of : (test : Act → Bool) (acts : List Act) → list_any test acts ≡ false → filter test acts ≡ []
none-of test [] none = refl
none-of test (act ∷ acts) none = by (test act) refl none (none-of test acts)
  where
    by : (is : Bool) → test act ≡ is → (is || list_any test acts) ≡ false
        → (list_any test acts ≡ false → filter test acts ≡ [])
        → (if is then act ∷ filter test acts else filter test acts) ≡ []
    by true is none later = absurd (cc)
    by false is none later = later none

-- what is taken of acts with one among them, before which none is taken
pub taken-first : (test : Act → Bool) (before : List Act) (act : Act) (after : List Act) → test act ≡ true
    → list_any test before ≡ false → filter test (before ++ act ∷ after) ≡ act ∷ filter test after
taken-first test before act after is none =
    filter-append test before (act ∷ after)
    ∙ ap (λ (xs : List Act). xs ++ filter test (act ∷ after)) (none-of test before none)
    ∙ ap (λ (b : Bool). if b then act ∷ filter test after else filter test after) is

-- the same of those without it
taken-without : (test : Act → Bool) (before : List Act) (act : Act) (after : List Act) → test act ≡ false
    → filter test (before ++ act ∷ after) ≡ filter test (before ++ after)
taken-without test before act after is =
    filter-append test before (act ∷ after)
    ∙ ap (λ (b : Bool). filter test before ++ (if b then act ∷ filter test after else filter test after)) is
    ∙ sym (filter-append test before after)

taken-none : (test : Act → Bool) (before after : List Act) → list_any test before ≡ false
    → filter test (before ++ after) ≡ filter test after
taken-none test before after none =
    filter-append test before after ∙ ap (λ (xs : List Act). xs ++ filter test after) (none-of test before none)

-- whoever does one act does what its actor does
by-actor : (actor : Actor) (act : Act) → is_by actor act ≡ true → actor ≡ actor_of act
by-actor (OfProcess n) (Step m) is = ap OfProcess (sym (eqb-true m n is))
by-actor (OfProcess n) (Take m place) is = ap OfProcess (sym (eqb-true m n is))
by-actor (OfProcess n) (Enter terminal) is = absurd (cc)
by-actor (OfProcess n) (Print terminal) is = absurd (cc)
by-actor (OfTerminal t) (Step number) is = absurd (cc)
by-actor (OfTerminal t) (Take number place) is = absurd (cc)
by-actor (OfTerminal t) (Enter u) is = ap OfTerminal (sym (eqb-true u t is))
by-actor (OfTerminal t) (Print u) is = ap OfTerminal (sym (eqb-true u t is))

same-test : (one act x : Act) → is_same_actor one act ≡ true → is_same_actor one x ≡ is_same_actor act x
same-test one act x same =
    actor-is one x
    ∙ ap (λ (actor : Actor). is_by actor x) (by-actor (actor_of one) act (sym (actor-is one act) ∙ same))
    ∙ sym (actor-is act x)

any-same : (test other : Act → Bool) (acts : List Act) → ((x : Act) → test x ≡ other x)
    → list_any test acts ≡ list_any other acts
any-same test other [] same = refl
any-same test other (act ∷ acts) same =
    ap (λ (b : Bool). b || list_any test acts) (same act)
    ∙ ap (λ (b : Bool). other act || b) (any-same test other acts same)

-- acts without one that has its turn in both
pub turns-without : (before : List Act) (act : Act) (after front end : List Act)
    → HasTurn before act → HasTurn front act → KeepsTurns (before ++ act ∷ after) (front ++ act ∷ end)
    → KeepsTurns (before ++ after) (front ++ end)
turns-without before act after front end turn other keeps = λ one. by one (is_same_actor one act) refl
  where
    by : (one : Act) (is : Bool) → is_same_actor one act ≡ is
        → filter (is_same_actor one) (before ++ after) ≡ filter (is_same_actor one) (front ++ end)
    by one false is =
        sym (taken-without (is_same_actor one) before act after is) ∙ keeps one
        ∙ taken-without (is_same_actor one) front act end is
    by one true is =
        let test = is_same_actor one in
        let none = any-same test (is_same_actor act) before (λ x. same-test one act x is) ∙ turn in
        let missing = any-same test (is_same_actor act) front (λ x. same-test one act x is) ∙ other in
        taken-none test before after none
        ∙ tail-is (sym (taken-first test before act after is none) ∙ keeps one
        ∙ taken-first test front act end is missing)
        ∙ sym (taken-none test front end missing)

-- an act that has its turn in some acts has it in others that keep turns
pub turn-in : (acts other : List Act) (before : List Act) (act : Act) (after : List Act) → KeepsTurns acts other
    → acts ≡ before ++ act ∷ after → HasTurn before act
    → HasFirst (is_same_actor act) act (filter (is_same_actor act) after) other
turn-in acts other before act after keeps there turn =
    first-of (is_same_actor act) act (filter (is_same_actor act) after) other
    (sym (keeps act) ∙ ap (filter (is_same_actor act)) there
    ∙ taken-first (is_same_actor act) before act after (itself act) turn)

-- What remains in a body is told by the number that comes next: the numbers that come next are those of the body in the
-- order of the text.
use Rattle.std.proofs.Common.{◌≡◌, inl, inr, ℕ, ◌+◌, ◌≤◌, ◌==◌, Bool, true, false, if◌then◌else◌, List, [], ◌∷◌, ◌++◌}
use Rattle.std.proofs.Common.{map, Some, eq-eqb, refl, ap, ap₂, subst, sym, ◌∙◌, arith}
use Rattle.std.proofs.lemmas.Bool.{eqb-true}
use Rattle.std.proofs.lemmas.List.{map-append}
use Rattle.tal_values.specs.gd_words.specs.Members.{IsAmong, AreDistinct}
use Rattle.tal_values.specs.tal_tree.specs.ByStatements.{HoldsInside, holds-before, by-statements}
use Rattle.tal_values.specs.tal_tree.specs.Statements.{body_before, last_of, numbers_of}
use Rattle.tal_values.specs.tal_tree.specs.declared.statement.Statement.{Statement}
use Rattle.tal_values.specs.tal_tree.specs.declared.statement.What.{What, What-F, out-What}
use Rattle.tal_values.specs.tal_tree.proofs.Numbers.{numbers_inside, numbers-more}
use Rattle.process_semantics.specs.Remains.{Remains}
use Rattle.process_semantics.specs.Rests.{next_number, rests, rests_of, rest_among, rest_from}
use Rattle.process_semantics.specs.State.{Entry, Run, Test, Last}
use Rattle.process_semantics.proofs.Rests.{rests_by, rests-more, behind}

-- The numbers that come next

abbrev nexts : List (List Entry) → List ℕ
nexts all = map next_number all

abbrev InOrder : List Statement → Type 0
InOrder statements = (after : List Entry) → nexts (rests statements after) ≡ numbers_of statements

layer-order : (self : Statement) (after : List Entry) (layer : What-F What Statement) → out-What self.what ≡ layer
    → HoldsInside InOrder layer
    → nexts (rests_by layer self after) ≡ numbers_inside self.number layer
layer-order self after (What-F.If test first second) is holds =
    map-append next_number (rests first after) (rests second after)
    ∙ ap₂ (λ (ns ms : List ℕ). ns ++ ms) (holds.0 after) (holds.1 after)
layer-order self after (What-F.While test body) is holds = holds (Run self ∷ after)
layer-order self after (What-F.For variable from to down step body last) is holds =
    let again : List Entry = Last self ∷ Test self ∷ after in
    ap (λ (ns : List ℕ). (self.number + 1) ∷ ns)
    (map-append next_number (rests body again) (again ∷ [])
    ∙ ap₂ (λ (ns : List ℕ) (n : ℕ). ns ++ n ∷ []) (holds again) (ap last_of is))
layer-order self after _ is holds = refl

more-order : (statement : Statement) (rest : List Statement) → HoldsInside InOrder (out-What statement.what)
    → InOrder rest → InOrder (statement ∷ rest)
more-order statement rest inside later after =
    let own : List Entry = Run statement ∷ behind rest after in
    let inner : List (List Entry) = rests_by (out-What statement.what) statement (behind rest after) in
    let before : List (List Entry) = rests (body_before (out-What statement.what)) own in
    ap nexts (rests-more statement rest after)
    ∙ map-append next_number before (own ∷ inner ++ rests rest after)
    ∙ ap₂ (λ (ns ms : List ℕ). ns ++ (statement.number ∷ ms))
    (holds-before InOrder (λ after. refl) (out-What statement.what) inside own)
    (map-append next_number inner (rests rest after)
    ∙ ap₂ (λ (ns ms : List ℕ). ns ++ ms) (layer-order statement (behind rest after) (out-What statement.what) refl
    inside) (later after))
    ∙ sym (numbers-more statement rest)

all-order : (statements : List Statement) → InOrder statements
all-order = by-statements InOrder (record { none = λ after. refl; more = more-order })

pub in-order : (body : List Statement) → map next_number (rests_of body) ≡ numbers_of body
in-order body = all-order body []

next-among : (rest : List Entry) (all : List (List Entry)) → IsAmong rest all → IsAmong (next_number rest) (nexts all)
next-among rest [] among = absurd among
next-among rest (one ∷ all) (inl same) = inl (ap next_number same)
next-among rest (one ∷ all) (inr among) = inr (next-among rest all among)

-- Looking up

if-both : {A : Type 0} (b : Bool) (x y z : A) → (b ≡ true → x ≡ z) → (b ≡ false → y ≡ z) → (if b then x else y) ≡ z
if-both true x y z holds otherwise = holds refl
if-both false x y z holds otherwise = otherwise refl

among-told : (rest : List Entry) (all : List (List Entry)) → AreDistinct (nexts all) → IsAmong rest all
    → rest_among (next_number rest) all ≡ Some rest
among-told rest [] distinct among = absurd among
among-told rest (one ∷ all) distinct (inl same) =
    if-both (next_number one == next_number rest) (Some one) (rest_among (next_number rest) all) (Some rest)
    (λ is. ap Some (sym same))
    (λ is. absurd (let there : (next_number one == next_number rest)
    ≡ true = eq-eqb (next_number one) (next_number rest) (ap next_number (sym same)) in cc))
among-told rest (one ∷ all) distinct (inr among) =
    if-both (next_number one == next_number rest) (Some one) (rest_among (next_number rest) all) (Some rest)
    (λ is. absurd (distinct.0 (subst (λ (n : ℕ). IsAmong n (nexts all))
    (sym (eqb-true (next_number one) (next_number rest) is)) (next-among rest all among))))
    (λ is. among-told rest all distinct.1 among)

-- what remains is found by its number
pub told : (body : List Statement) → AreDistinct (numbers_of body) → ((n : ℕ) → IsAmong n (numbers_of body) → 1 ≤ n)
    → (rest : List Entry) → Remains body rest
    → rest_from body (next_number rest) ≡ Some rest
told body distinct positive rest (inl none) =
    ap (λ (r : List Entry). rest_from body (next_number r)) none ∙ ap Some (sym none)
told body distinct positive rest (inr among) =
    if-both (next_number rest == 0) (Some []) (rest_among (next_number rest) (rests_of body)) (Some rest)
    (λ is. absurd (let none : next_number rest ≡ 0 = eqb-true (next_number rest) 0 is in
    let some : 1 ≤ next_number rest = positive (next_number rest)
    (subst (IsAmong (next_number rest)) (in-order body) (next-among rest (rests_of body) among)) in omega arith))
    (λ is. among-told rest (rests_of body) (subst AreDistinct (sym (in-order body)) distinct) among)

found-among : (number : ℕ) (all : List (List Entry)) (rest : List Entry) → rest_among number all ≡ Some rest
    → IsAmong rest all × (next_number rest ≡ number)
found-among number [] rest is = absurd (cc)
found-among number (one ∷ all) rest is =
    which (next_number one == number) refl is (λ there. found-among number all rest there)
  where
    which : (b : Bool) → (next_number one == number) ≡ b → (if b then Some one else rest_among number all) ≡ Some rest
        → (rest_among number all ≡ Some rest → IsAmong rest all × (next_number rest ≡ number))
        → IsAmong rest (one ∷ all) × (next_number rest ≡ number)
    which true equal there later =
        let same : one ≡ rest = cc in
        (inl (sym same), ap next_number (sym same) ∙ eqb-true (next_number one) number equal)
    which false equal there later = let other = later there in (inr other.0, other.1)

-- what a number finds remains, and has this number
pub found : (body : List Statement) (number : ℕ) (rest : List Entry) → rest_from body number ≡ Some rest
    → Remains body rest × (next_number rest ≡ number)
found body number rest is = which (number == 0) refl is
  where
    which : (b : Bool) → (number == 0) ≡ b → (if b then Some [] else rest_among number (rests_of body)) ≡ Some rest
        → Remains body rest × (next_number rest ≡ number)
    which true none there = let same : rest ≡ [] = cc in (inl same, ap next_number same ∙ sym (eqb-true number 0 none))
    which false some there = let among = found-among number (rests_of body) rest there in (inr among.0, among.1)

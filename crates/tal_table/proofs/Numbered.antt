-- What remains at each number of a program that is numbered in the order of its text.
use Rattle.std.proofs.Common.{◌≡◌, inl, inr, ℕ, zero, suc, ◌+◌, ◌≤◌, ◌<◌, List, [], ◌∷◌, ◌++◌, map, length, refl, ap}
use Rattle.std.proofs.Common.{ap₂, sym, ◌∙◌, arith}
use Rattle.std.proofs.lemmas.List.{map-append}
use Rattle.std.proofs.lemmas.Option.{slice_get-map, slice_get_past}
use Rattle.std.specs.Option.{option_map, unwrap_or}
use Rattle.std.specs.Prelude.{Some, slice_get}
use Rattle.gd_words.specs.Members.{IsAmong, AreDistinct}
use Rattle.gd_words.proofs.Among.{among-at, among-given}
use Rattle.tal_tree.specs.Limits.{IsWithinLimits}
use Rattle.tal_tree.specs.Ordered.{IsNumbered, numbers_in_all}
use Rattle.tal_tree.specs.declared.program.Procedure.{Procedure}
use Rattle.tal_tree.specs.declared.program.Program.{Program}
use Rattle.process_semantics.specs.Rests.{next_number, rests_of}
use Rattle.process_semantics.specs.State.{Entry}
use Rattle.process_semantics.proofs.Told.{in-order}
use Rattle.tal_table.specs.Loads.{FindsAll, rests_all}
use Rattle.tal_table.specs.Places.{places, rest_at}

nexts-all : (procedures : List Procedure) → map next_number (rests_all procedures) ≡ numbers_in_all procedures
nexts-all [] = refl
nexts-all (procedure ∷ more) =
    map-append next_number (rests_of procedure.body) (rests_all more)
    ∙ ap₂ (λ (ns ms : List ℕ). ns ++ ms) (in-order procedure.body) (nexts-all more)

number-there : (procedures : List Procedure) (k : ℕ) (rest : List Entry)
    → slice_get (rests_all procedures) k ≡ Some rest
    → slice_get (numbers_in_all procedures) k ≡ Some (next_number rest)
number-there procedures k rest there =
    ap (λ (ns : List ℕ). slice_get ns k) (sym (nexts-all procedures))
    ∙ slice_get-map next_number (rests_all procedures) k ∙ ap (option_map next_number) there

-- each of what remains stands at its number
pub next-at : (program : Program) → IsNumbered program → (number : ℕ) (rest : List Entry)
    → slice_get (places program) number ≡ Some rest → next_number rest ≡ number
next-at program numbered zero rest there = let none : rest ≡ [] = cc in ap next_number none
next-at program numbered (suc k) rest there =
    let is : next_number rest ≡ k + 1 =
    numbered k (next_number rest) (number-there program.procedures k rest there) in omega arith

-- what stands below the end
pub within-there : {A : Type 0} (xs : List A) (k : ℕ) → k < length xs → (x : A) × (slice_get xs k ≡ Some x)
within-there [] k within = absurd (omega arith)
within-there (x ∷ xs) zero within = (x, refl)
within-there (x ∷ xs) (suc k) within = within-there xs k (omega arith)

-- at which place one stands
pub at-among : {A : Type 0} (x : A) (xs : List A) → IsAmong x xs → (k : ℕ) × (slice_get xs k ≡ Some x)
at-among x [] among = absurd among
at-among x (y ∷ xs) (inl same) = (0, ap (λ z. Some z) (sym same))
at-among x (y ∷ xs) (inr among) = let found = at-among x xs among in (suc found.0, found.1)

pub here-at : (all : List (List Entry)) (number : ℕ) (rest : List Entry) → slice_get all number ≡ Some rest
    → rest_at all number ≡ rest
here-at all number rest there = ap (λ found. unwrap_or found []) there

pub past-at : (all : List (List Entry)) (number : ℕ) → length all ≤ number → rest_at all number ≡ []
past-at all number past = ap (λ found. unwrap_or found []) (slice_get_past all number past)

-- one that remains stands at its number
pub stands-at : (program : Program) → IsNumbered program → (rest : List Entry) → IsAmong rest (places program)
    → slice_get (places program) (next_number rest) ≡ Some rest
stands-at program numbered rest among =
    let found = at-among rest (places program) among in
    ap (slice_get (places program)) (next-at program numbered found.0 rest found.1) ∙ found.1

pub all-found : (program : Program) → IsNumbered program → FindsAll (places program) (places program)
all-found program numbered rest among =
    here-at (places program) (next_number rest) rest (stands-at program numbered rest among)

-- the numbers are distinct, and no more than 2,000

counts-from : (numbers : List ℕ) (first : ℕ)
    → ((k number : ℕ) → slice_get numbers k ≡ Some number → number ≡ k + first) → AreDistinct numbers
counts-from [] first counted = tt
counts-from (n ∷ numbers) first counted = (
  (λ among.
      let found = at-among n numbers among in
      let here : n ≡ 0 + first = counted 0 n refl in
      let later : n ≡ suc found.0 + first = counted (suc found.0) n found.1 in
      omega arith),
  counts-from numbers (first + 1) (λ k number there. let is : number ≡ suc k + first = counted (suc k) number there in
      omega arith),
)

pub numbers-distinct : (program : Program) → IsNumbered program → AreDistinct (numbers_in_all program.procedures)
numbers-distinct program numbered = counts-from (numbers_in_all program.procedures) 1 numbered

pub few-places : (program : Program) → IsNumbered program → IsWithinLimits program → (number : ℕ)
    → number < length (places program) → number ≤ 2000
few-places program numbered limits zero below = omega arith
few-places program numbered limits (suc k) below =
    let there : (rest : List Entry) × (slice_get (places program) (suc k) ≡ Some rest) =
    within-there (places program) (suc k) below in
    let number = number-there program.procedures k there.0 there.1 in
    let is : next_number there.0 ≡ k + 1 = numbered k (next_number there.0) number in
    let few : next_number there.0 ≤ 2000 = (limits.numbers (next_number there.0)
    (among-at (numbers_in_all program.procedures) k (next_number there.0) number)).1 in
    omega arith

-- what remains in a procedure remains in the program
pub given-at : (procedures : List Procedure) (k : ℕ) (procedure : Procedure) (rest : List Entry)
    → slice_get procedures k ≡ Some procedure
    → IsAmong rest (rests_of procedure.body) → IsAmong rest (rests_all procedures)
given-at procedures k procedure rest there among =
    among-given (λ (p : Procedure). rests_of p.body) procedure rest procedures (among-at procedures k procedure there)
    among

pub among-places : (program : Program) (k : ℕ) (procedure : Procedure) (rest : List Entry)
    → slice_get program.procedures k ≡ Some procedure
    → IsAmong rest (rests_of procedure.body) → IsAmong rest (places program)
among-places program k procedure rest there among =
    inr (given-at program.procedures k procedure rest there among)

-- Entries found by their numbers.
use Rattle.std.specs.Prelude.{◌≡◌, ℕ, List, ◌∷◌, ◌++◌, Option, Some, None}
use Rattle.tal_tree.specs.declared.statement.Statement.{Statement}
use Rattle.process_semantics.specs.Rests.{next_number, rest_among}
use Rattle.process_semantics.specs.SeenEntries.{entry_of}
use Rattle.process_semantics.specs.State.{Entry, runs_of}
use Rattle.discipline.specs.declared.find.Found.{Found}

-- what is found by a number among what remains from each entry on: the entry, and the number that comes after it
abbrev pub IsFoundAmong : ℕ → List (List Entry) → Option Found → Type 0
IsFoundAmong number all None = rest_among number all ≡ None
IsFoundAmong number all (Some found) = (rest : List Entry)
    × (rest_among number all ≡ Some (entry_of found.entry ∷ rest)) × (found.after ≡ next_number rest)

-- the same among what remains in a part of a procedure, whatever comes after it with this number
abbrev pub IsFoundIn : (List Entry → List (List Entry)) → ℕ → ℕ → Option Found → Type 0
IsFoundIn remaining after number result =
    (later : List Entry) → next_number later ≡ after → IsFoundAmong number (remaining later) result

-- the number with which statements begin, or what comes after them where there are none
abbrev pub IsFirstNumber : List Statement → ℕ → ℕ → Type 0
IsFirstNumber statements after number =
    (later : List Entry) → next_number later ≡ after → number ≡ next_number (runs_of statements ++ later)

-- Programs as their texts number and order them.
use Rattle.std.specs.Prelude.{◌≡◌, ℕ, ◌+◌, ◌<◌, List, flat_map, slice_get, Some}
use Rattle.tal_tree.specs.declared.program.Program.{Program}
use Rattle.tal_tree.specs.declared.program.Procedure.{Procedure}
use Rattle.gd_words.specs.Members.{IsAmong, AreDistinct}
use Rattle.tal_tree.specs.Statements.{numbers_of, calls_of}

-- the numbers of procedures in the order of the text
abbrev pub numbers_in_all : List Procedure → List ℕ
numbers_in_all procedures = flat_map (λ procedure. numbers_of procedure.body) procedures

-- a program's numbers in the order of its text are 1, 2, 3 and so on
abbrev pub IsNumbered : Program → Type 0
IsNumbered program = (k number : ℕ) → slice_get (numbers_in_all program.procedures) k ≡ Some number → number ≡ k + 1

-- each number of a program is that of one statement alone, and its procedures call only procedures that stand before
-- them
pub record IsOrdered (program : Program) : Type 0 where
  pub numbers : AreDistinct (numbers_in_all program.procedures)
  pub calls : (k : ℕ) (procedure : Procedure) → slice_get program.procedures k ≡ Some procedure → (called : ℕ)
      → IsAmong called (calls_of procedure.body) → called < k

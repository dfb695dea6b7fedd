-- What places are made of: what remains in each procedure that runs is of its body, and the number that comes next
-- there tells it.
use Rattle.std.specs.Prelude.{◌≡◌, ◌≤◌, ℕ, List, [], ◌∷◌, map, slice_get, Option, Some, None}
use Rattle.gd_words.specs.Members.{IsAmong, AreDistinct}
use Rattle.tal_tree.specs.Statements.{numbers_of}
use Rattle.tal_tree.specs.declared.program.Procedure.{Procedure}
use Rattle.tal_tree.specs.declared.program.Program.{Program}
use Rattle.tal_tree.specs.declared.statement.Statement.{Statement}
use Rattle.process_semantics.specs.Remains.{Remains}
use Rattle.process_semantics.specs.Rests.{next_number}
use Rattle.process_semantics.specs.State.{Entry, called_by}
use Rattle.path_semantics.specs.Place.{Place}

abbrev pub statements_in : Option Procedure → List Statement
statements_in None = []
statements_in (Some procedure) = procedure.body

-- so much may remain in this procedure; nothing may remain where none is called
abbrev pub RemainsIn : Program → Option ℕ → List Entry → Type 0
RemainsIn program None frame = ⊥
RemainsIn program (Some procedure) frame = Remains (statements_in (slice_get program.procedures procedure)) frame

-- the procedure of the frame above these: the one that the first of them has called, and MAIN above none
abbrev pub called_above : Program → Place → Option ℕ
called_above program [] = Some program.main
called_above program (caller ∷ callers) = called_by caller

-- each frame remains in the procedure that the frame below has called, and the last in MAIN
abbrev pub RemainsAt : Program → Place → Type 0
RemainsAt program [] = Unit {0}
RemainsAt program (frame ∷ callers) = RemainsIn program (called_above program callers) frame × RemainsAt program callers

-- the number that comes next in each procedure that runs, or that of the call in progress, 0 at a procedure's end
abbrev pub next_numbers : Place → List ℕ
next_numbers place = map next_number place

-- within each procedure each number stands once, and none is 0
pub record HasDistinctNumbers (program : Program) : Type 0 where
  pub distinct : (k : ℕ) (procedure : Procedure) → slice_get program.procedures k ≡ Some procedure
      → AreDistinct (numbers_of procedure.body)
  pub positive : (k : ℕ) (procedure : Procedure) → slice_get program.procedures k ≡ Some procedure → (n : ℕ)
      → IsAmong n (numbers_of procedure.body) → 1 ≤ n

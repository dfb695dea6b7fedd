-- What holds of every copy.
use Rattle.std.specs.Prelude.{◌≡◌, ℕ, ℤ, List, length, Option, Some, is_some}
use Rattle.process_semantics.specs.declared.point.Point.{Point}
use Rattle.process_semantics.specs.declared.point.Point.TheVariants.{Take, Answer, AtCheckpoint, Device}
use Rattle.process_semantics.specs.Process.{ProcessState, Runs, Serves, in_hand}
use Rattle.whole_states.specs.Listing.{files_of}
use Rattle.whole_states.specs.Processes.{IsWholeProcess}
use Rattle.computed_changes.specs.sync_ids.specs.Tables.{Remembered, IsSound}

-- a disc at AtCheckpoint, at Device and at Answer has a request
abbrev pub HoldsAt : Point → Option (List ℤ) → Type 0
HoldsAt Take request = Unit {0}
HoldsAt AtCheckpoint (Some request) = Unit {0}
HoldsAt Device (Some request) = Unit {0}
HoldsAt Answer (Some request) = Unit {0}
HoldsAt _ _ = ⊥

-- the state of a program is whole, and a disc holds a request where it has to
abbrev pub IsInOrder : ProcessState → Type 0
IsInOrder (Runs program s) = IsWholeProcess (Runs program s)
IsInOrder (Serves sectors s) = HoldsAt s.label s.request

-- the state is in order, it has a request in hand exactly where the receive table has, there is a next number for each
-- of its files, and the table is sound
pub record IsConsistent (state : ProcessState) (next : List ℕ) (remembered : Remembered) : Type 0 where
  pub order : IsInOrder state
  pub hand : in_hand state ≡ is_some remembered.table.in_hand
  pub files : length next ≡ files_of state
  pub table : IsSound remembered

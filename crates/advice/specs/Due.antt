-- What is due where a CHECKPOINT comes next on some path, and how much a file was asked where it is asked again. The
-- rules are those by which paths break; that they are told here without what the CHECKPOINTs name is our own.
use Rattle.std.specs.Prelude.{◌≡◌, ℕ, ◌==◌, Bool, true, false, ◌&&◌, IsTrue, List, Option, Some}
use Rattle.gd_words.specs.Members.{is_among}
use Rattle.tal_tree.specs.declared.program.Program.{Program}
use Rattle.tal_tree.specs.declared.statement.Statement.{Statement}
use Rattle.tal_tree.specs.declared.statement.What.{What, What-F, out-What}
use Rattle.discipline.specs.process_semantics.specs.State.{Entry, Run}
use Rattle.discipline.specs.path_semantics.specs.Break.{asked_count}
use Rattle.discipline.specs.path_semantics.specs.Path.{Leads}
use Rattle.discipline.specs.path_semantics.specs.Place.{Stand, next_entry}

abbrev pub is_checkpoint : What-F What Statement → Bool
is_checkpoint (What-F.Checkpoint items files) = true
is_checkpoint _ = false

-- whether a statement is a WRITEREAD on this file
abbrev pub is_ask : ℕ → What-F What Statement → Bool
is_ask file (What-F.WriteRead asked buffer send room got) = asked == file
is_ask file _ = false

-- whether the next entry is a CHECKPOINT of this number
abbrev pub is_checkpoint_next : ℕ → Option Entry → Bool
is_checkpoint_next number (Some (Run statement)) =
    (statement.number == number) && is_checkpoint (out-What statement.what)
is_checkpoint_next number _ = false

-- whether the next entry is a WRITEREAD on this file
abbrev pub is_ask_next : ℕ → Option Entry → Bool
is_ask_next file (Some (Run statement)) = is_ask file (out-What statement.what)
is_ask_next file _ = false

-- some path leads to a CHECKPOINT of this number where this global is due
pub record IsItemDue (program : Program) (number item : ℕ) : Type 0 where
  pub path : List ℕ
  pub stand : Stand
  pub leads : Leads program path stand
  pub next : IsTrue (is_checkpoint_next number (next_entry stand))
  pub due : IsTrue (is_among item stand.dues.globals)

-- some path leads to a CHECKPOINT of this number where this file was asked
pub record IsFileDue (program : Program) (number file : ℕ) : Type 0 where
  pub path : List ℕ
  pub stand : Stand
  pub leads : Leads program path stand
  pub next : IsTrue (is_checkpoint_next number (next_entry stand))
  pub due : IsTrue (is_among file stand.dues.asked)

-- some path leads to a WRITEREAD on this file where so many are counted
pub record IsAskedAfter (program : Program) (file count : ℕ) : Type 0 where
  pub path : List ℕ
  pub stand : Stand
  pub leads : Leads program path stand
  pub next : IsTrue (is_ask_next file (next_entry stand))
  pub counted : asked_count file stand.dues ≡ count

-- What a step of a program is to the paths of the checkpoint discipline: where it leads, what is due there, and which
-- words stay.
use Rattle.std.specs.Prelude.{◌≡◌, ◌≤◌, ◌⊎◌, ℕ, Bool, true, false, is_some}
use Rattle.gd_words.specs.Members.{IsAmong, is_among}
use Rattle.tal_tree.specs.declared.program.Program.{Program}
use Rattle.tal_tree.specs.declared.statement.Statement.{Statement}
use Rattle.tal_tree.specs.declared.statement.What.{What, What-F}
use Rattle.process_semantics.specs.State.{ProgramState, words_of, count_of, in_next}
use Rattle.path_semantics.specs.declared.dues.Dues.{Dues}
use Rattle.path_semantics.specs.Place.{Stand, place_of, settled, successors}
use Rattle.path_semantics.specs.Break.{asked_count}

-- where a state stands on a path, with so much due: a procedure at whose end it stands is left already
abbrev pub stand_of : Dues → ProgramState → Stand
stand_of dues s = settled dues (place_of s.frames)

-- a program stays at its stand, or goes on where the next entry leads
abbrev pub StaysOrGoesOn : Program → Stand → Stand → Type 0
StaysOrGoesOn program here there = (here ≡ there) ⊎ IsAmong there (successors program here)

-- a step from one state to another follows a path, where so much is due before it and so much after it
pub record FollowsPath (program : Program) (dues later : Dues) (s after : ProgramState) : Type 0 where
  -- it stays at its stand or goes on where the next entry leads, and what is due after it is due there
  pub leads : StaysOrGoesOn program (stand_of dues s) (stand_of later after)
  -- a global that isn't due after the step wasn't due before it: what was due is due still
  pub due : (item : ℕ) → is_among item later.globals ≡ false → is_among item dues.globals ≡ false
  -- a global that isn't due after the step has the words that it had: what the step changes is due
  pub words : (item : ℕ) → is_among item later.globals ≡ false → words_of after.globals item ≡ words_of s.globals item
  -- of no file fewer WRITEREADs are due than before
  pub asked : (file : ℕ) → asked_count file dues ≤ asked_count file later
  -- a request that was read is due still
  pub read : dues.read ≡ true → later.read ≡ true

-- whether the count of words for which a WRITEREAD has room is good; no other statement has one
abbrev pub has_room_in : Program → ProgramState → What-F What Statement → Bool
has_room_in program s (What-F.WriteRead file buffer send room got) = is_some (count_of program s buffer room)
has_room_in program s (What-F.Assign _ _) = true
has_room_in program s (What-F.AssignCall _ _ _) = true
has_room_in program s (What-F.If _ _ _) = true
has_room_in program s (What-F.While _ _) = true
has_room_in program s (What-F.DoUntil _ _) = true
has_room_in program s (What-F.For _ _ _ _ _ _ _) = true
has_room_in program s (What-F.Call _ _) = true
has_room_in program s (What-F.Return _) = true
has_room_in program s (What-F.ReadUpdate _ _ _) = true
has_room_in program s (What-F.Reply _ _) = true
has_room_in program s (What-F.Checkpoint _ _) = true
has_room_in program s What-F.CheckMonitor = true
has_room_in program s (What-F.Open _) = true
has_room_in program s What-F.Stop = true

-- a program that awaits a reply has room for it
abbrev pub HasRoom : Program → ProgramState → Type 0
HasRoom program s = s.awaits ≡ true → in_next true (has_room_in program s) s.frames ≡ true

-- The point at which a program stands, which tells what its next step is.
use Rattle.std.specs.Prelude.{ℕ, if◌then◌else◌, Option, Some, None}
use Rattle.tal_values.specs.tal_tree.specs.declared.program.Program.{Program}
use Rattle.tal_values.specs.tal_tree.specs.declared.statement.Statement.{Statement}
use Rattle.tal_values.specs.tal_tree.specs.declared.statement.What.{What, What-F, out-What}
use Rattle.process_semantics.specs.declared.point.Point.{Point}
use Rattle.process_semantics.specs.declared.point.Point.TheVariants.{Inner, Take, Ask, Await, Answer, AtCheckpoint}
use Rattle.process_semantics.specs.declared.point.Point.TheVariants.{Ended}
use Rattle.process_semantics.specs.State.{Entry, ProgramState, next_of, count_of, Run}

-- the point of a call with this count; one that traps is at Inner
abbrev pub where_good : Point → Option ℕ → Point
where_good point None = Inner
where_good point (Some n) = point

-- the point of a call with two counts
abbrev pub where_both_good : Point → Option ℕ → Option ℕ → Point
where_both_good point None n = Inner
where_both_good point (Some m) n = where_good point n

-- the point of a statement that comes next
abbrev pub point_in : Program → ProgramState → What-F What Statement → Point
point_in program s (What-F.ReadUpdate buffer most got) =
    if s.in_hand then Inner else where_good Take (count_of program s buffer most)
point_in program s (What-F.WriteRead file buffer send room got) =
    if s.awaits then Await else where_both_good Ask (count_of program s buffer send) (count_of program s buffer room)
point_in program s (What-F.Reply buffer count) =
    if s.in_hand then where_good Answer (count_of program s buffer count) else Inner
point_in program s (What-F.Checkpoint items files) = AtCheckpoint
point_in program s (What-F.Assign to value) = Inner
point_in program s (What-F.AssignCall to procedure arguments) = Inner
point_in program s (What-F.If test first second) = Inner
point_in program s (What-F.While test body) = Inner
point_in program s (What-F.For variable from to down step body last) = Inner
point_in program s (What-F.DoUntil body test) = Inner
point_in program s (What-F.Call procedure arguments) = Inner
point_in program s (What-F.Return value) = Inner
point_in program s What-F.CheckMonitor = Inner
point_in program s (What-F.Open file) = Inner
point_in program s What-F.Stop = Inner

-- the point of the entry that comes next
abbrev pub point_at : Program → ProgramState → Option Entry → Point
point_at program s (Some (Run statement)) = point_in program s (out-What statement.what)
point_at program s _ = Inner

-- READUPDATE is at Take, WRITEREAD at Ask and then at Await, REPLY at Answer and CHECKPOINT at AtCheckpoint; everything
-- else, and each call that would trap, is at Inner
abbrev pub point_of : Program → ProgramState → Point
point_of program s = if s.ended then Ended else point_at program s (next_of s.frames)

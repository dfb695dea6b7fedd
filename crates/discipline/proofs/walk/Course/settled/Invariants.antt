use Rattle.std.proofs.Common.{length}
use Rattle.discipline.specs.Walker.{KeepsSettled}
use Rattle.discipline.proofs.walk.Course.settled.Given as goal

abbrev pub invariant-loop-top : goal.invariant-loop-top
invariant-loop-top l =
    KeepsSettled l.self.program.now l.self.reason l.fn.walker.stack l.fn.walker.due l.walker.stack l.walker.due

abbrev pub decreases-loop-top : goal.decreases-loop-top
decreases-loop-top l = length l.walker.stack

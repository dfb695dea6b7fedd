use Rattle.std.proofs.Common.{◌+◌, take}
use Rattle.discipline.specs.Walker.{HasWalked}
use Rattle.discipline.proofs.walk.Course.walk.Given as goal

abbrev pub invariant-loop-number : goal.invariant-loop-number
invariant-loop-number l = HasWalked l.self.program.now l.self.reason (take (l.number-index + 1) l.path) l.here

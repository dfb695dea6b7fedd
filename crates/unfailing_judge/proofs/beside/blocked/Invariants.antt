use Rattle.std.proofs.Common.{take}
use Rattle.unfailing_judge.specs.Sound.{NoneIsPossible}
use Rattle.unfailing_judge.proofs.beside.blocked.Given as goal

-- none of those before is possible
abbrev pub invariant-loop-place : goal.invariant-loop-place
invariant-loop-place l = record {
  none : NoneIsPossible l.replay.plain.site l.replay.plain.state (take l.place l.left);
}

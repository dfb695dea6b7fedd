use Rattle.std.proofs.Common.{◌≡◌, ◌+◌, ◌++◌, drop, length}
use Rattle.unfailing_judge.specs.Replays.{NoneGoesIn}
use Rattle.unfailing_judge.proofs.Settling.{IsOnTheWay}
use Rattle.unfailing_judge.proofs.settle.settle.Given as goal

-- the acts so far went or wait, and none that waits can go
abbrev pub invariant-loop-act : goal.invariant-loop-act
invariant-loop-act l = record {
  way : IsOnTheWay l.site l.acts l.shown (l.left.items ++ drop l.act-index l.acts) l.replay;
  none : NoneGoesIn l.shown l.left.items l.replay;
  all : l.replay.made + length l.left.items ≡ l.act-index;
}

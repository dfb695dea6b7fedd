use Rattle.std.proofs.Common.{take}
use Rattle.unfailing_judge.specs.Replays.{IsAsItWas, NoneGoesIn}
use Rattle.unfailing_judge.proofs.settle.first.Given as goal

-- nothing was made, and none of those before can go
abbrev pub invariant-loop-place : goal.invariant-loop-place
invariant-loop-place l = record {
  same : IsAsItWas l.fn.replay l.replay;
  none : NoneGoesIn l.shown (take l.place l.acts) l.fn.replay;
}

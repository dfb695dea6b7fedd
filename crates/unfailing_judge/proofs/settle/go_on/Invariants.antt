use Rattle.std.proofs.Common.{◌≡◌, ◌+◌, length}
use Rattle.unfailing_judge.specs.Replays.{IsCarriedOn}
use Rattle.unfailing_judge.proofs.settle.go_on.Given as goal

-- some acts went, and the others are left
abbrev pub invariant-acts : goal.invariant-acts
invariant-acts l = record {
  carried : IsCarriedOn l.shown l.fn.left.items l.left.items l.fn.replay l.replay;
  all : l.replay.made + length l.left.items ≡ l.fn.replay.made + length l.fn.left.items;
}

abbrev pub decreases-acts : goal.decreases-acts
decreases-acts l = length l.left.items

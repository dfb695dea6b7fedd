use Rattle.std.proofs.Common.{◌≡◌, length}
use Rattle.tal_recogniser.specs.Machine.{feed}
use Rattle.tal_recogniser.proofs.stack.Stack.feed.Given as goal

-- what gave way changes nothing
abbrev pub invariant-loop-symbol : goal.invariant-loop-symbol
invariant-loop-symbol l = feed l.token l.self ≡ feed l.token l.initial.self

abbrev pub decreases-loop-symbol : goal.decreases-loop-symbol
decreases-loop-symbol l = length l.self

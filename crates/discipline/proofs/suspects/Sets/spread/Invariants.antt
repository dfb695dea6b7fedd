use Rattle.std.proofs.Common.{◌≡◌, ◌<◌, length}
use Rattle.discipline.proofs.suspects.Sets.spread.Given as goal

abbrev pub invariant-loop-k : goal.invariant-loop-k
invariant-loop-k l = length l.self.sets.items ≡ length l.flow

abbrev pub invariant-loop-back : goal.invariant-loop-back
invariant-loop-back l = (length l.self.sets.items ≡ length l.flow) × (l.place < length l.flow)

abbrev pub decreases-loop-back : goal.decreases-loop-back
decreases-loop-back l = l.place

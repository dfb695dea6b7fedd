use Rattle.std.proofs.Common.{length}
use Rattle.node_copies.proofs.KeptReplies.{SettledSoFar}
use Rattle.node_copies.proofs.settling.settle.Given as goal

abbrev pub invariant-loop-reply : goal.invariant-loop-reply
invariant-loop-reply l = SettledSoFar l.receive.table l.node l.initial.waiting l.waiting l.initial.told l.told

abbrev pub decreases-loop-reply : goal.decreases-loop-reply
decreases-loop-reply l = length l.waiting.requests

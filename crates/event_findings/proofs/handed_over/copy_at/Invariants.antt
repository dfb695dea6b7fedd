use Rattle.std.proofs.Common.{◌≡◌, length}
use Rattle.event_findings.specs.HandedOver.{copy_at}
use Rattle.event_findings.proofs.handed_over.copy_at.Given as goal

abbrev pub invariant-loop-copy : goal.invariant-loop-copy
invariant-loop-copy l = copy_at l.process l.processor l.left ≡ copy_at l.process l.processor l.copies

abbrev pub decreases-loop-copy : goal.decreases-loop-copy
decreases-loop-copy l = length l.left

use Rattle.std.proofs.Common.{◌≡◌, ◌++◌, length}
use Rattle.event_findings.specs.Changes.{waits_found}
use Rattle.event_findings.proofs.changes.put_waits.Given as goal

abbrev pub invariant-loop-copy : goal.invariant-loop-copy
invariant-loop-copy l =
    l.findings ++ waits_found l.before_left l.after_left ≡ l.fn.findings ++ waits_found l.before l.after

abbrev pub decreases-loop-copy : goal.decreases-loop-copy
decreases-loop-copy l = length l.before_left

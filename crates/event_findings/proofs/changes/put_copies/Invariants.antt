use Rattle.std.proofs.Common.{◌≡◌, ◌++◌, length}
use Rattle.event_findings.specs.Changes.{copies_found}
use Rattle.event_findings.proofs.changes.put_copies.Given as goal

abbrev pub invariant-loop-copy : goal.invariant-loop-copy
invariant-loop-copy l = l.findings ++ copies_found l.site l.before_left l.after_left
    ≡ l.fn.findings ++ copies_found l.site l.before l.after

abbrev pub decreases-loop-copy : goal.decreases-loop-copy
decreases-loop-copy l = length l.before_left

use Rattle.std.proofs.Common.{◌≡◌, ◌++◌, flat_map, take}
use Rattle.event_findings.specs.Changes.{wait_found}
use Rattle.event_findings.proofs.changes.put_waits_of.Given as goal

abbrev pub invariant-loop-request : goal.invariant-loop-request
invariant-loop-request l =
    l.findings ≡ l.initial.findings ++ flat_map (wait_found l.copy l.before) (take l.request-index l.after)

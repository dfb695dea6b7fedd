use Rattle.std.proofs.Common.{◌≡◌, ◌++◌, flat_map, take}
use Rattle.event_findings.specs.Changes.{stop_found}
use Rattle.event_findings.proofs.changes.put_stops.Given as goal

abbrev pub invariant-loop-processor : goal.invariant-loop-processor
invariant-loop-processor l =
    l.findings ≡ l.initial.findings ++ flat_map (stop_found l.before) (take l.processor-index l.after)

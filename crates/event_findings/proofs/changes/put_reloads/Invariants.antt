use Rattle.std.proofs.Common.{◌≡◌, ◌++◌, flat_map, take}
use Rattle.event_findings.specs.Changes.{reload_found}
use Rattle.event_findings.proofs.changes.put_reloads.Given as goal

abbrev pub invariant-loop-processor : goal.invariant-loop-processor
invariant-loop-processor l =
    l.findings ≡ l.initial.findings ++ flat_map (reload_found l.after) (take l.processor-index l.before)

use Rattle.std.proofs.Common.{◌≡◌, ◌++◌, flat_map, take}
use Rattle.event_findings.specs.Watches.{miss_at}
use Rattle.event_findings.proofs.watches.put_misses.Given as goal

abbrev pub invariant-loop-processor : goal.invariant-loop-processor
invariant-loop-processor l =
    l.findings ≡ l.initial.findings
    ++ flat_map (miss_at l.node l.before l.after) (take l.processor-index l.processors)

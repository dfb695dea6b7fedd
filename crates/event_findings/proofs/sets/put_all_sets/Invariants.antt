use Rattle.std.proofs.Common.{◌≡◌, ◌++◌, map, take}
use Rattle.event_findings.specs.Sets.{set_by}
use Rattle.event_findings.proofs.sets.put_all_sets.Given as goal

abbrev pub invariant-loop-set : goal.invariant-loop-set
invariant-loop-set l = l.findings ≡ l.initial.findings ++ map (set_by l.process) (take l.set-index l.sets)

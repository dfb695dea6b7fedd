use Rattle.std.proofs.Common.{◌≡◌, ◌++◌, map, take}
use Rattle.event_findings.specs.Acts.{keeps}
use Rattle.event_findings.proofs.acts.put_keeps.Given as goal

abbrev pub invariant-loop-act : goal.invariant-loop-act
invariant-loop-act l =
    l.findings ≡ l.initial.findings ++ map (keeps l.machine.state.site) (take l.act-index l.acts)

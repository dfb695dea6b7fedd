use Rattle.std.proofs.Common.{◌≡◌, ◌++◌, map, take}
use Rattle.event_findings.specs.Acts.{holds_back}
use Rattle.event_findings.proofs.acts.put_holds.Given as goal

abbrev pub invariant-loop-act : goal.invariant-loop-act
invariant-loop-act l =
    l.findings ≡ l.initial.findings ++ map (holds_back l.machine.state.site) (take l.act-index l.acts)

use Rattle.std.proofs.Common.{◌≡◌, ◌++◌, flat_map, take}
use Rattle.event_findings.specs.Sends.{sends_of}
use Rattle.event_findings.proofs.sends.put_sends.Given as goal

abbrev pub invariant-loop-one : goal.invariant-loop-one
invariant-loop-one l =
    l.findings ≡ l.initial.findings ++ flat_map (sends_of l.machine.state) (take l.one-index l.queued)

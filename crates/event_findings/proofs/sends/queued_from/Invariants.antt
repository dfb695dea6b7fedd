use Rattle.std.proofs.Common.{◌≡◌, map, take}
use Rattle.event_findings.specs.Sends.{queued_for}
use Rattle.event_findings.proofs.sends.queued_from.Given as goal

abbrev pub invariant-loop-to : goal.invariant-loop-to
invariant-loop-to l =
    l.queued ≡ map (queued_for l.machine.state.wires.nodes l.again l.from) (take l.to-index l.nodes)

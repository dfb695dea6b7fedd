use Rattle.std.proofs.Common.{◌≡◌, ◌-◌}
use Rattle.event_parts.specs.packet_wires.specs.Lines.{first_held}
use Rattle.node.proofs.node.first_held.Given as goal

abbrev pub invariant-loop-processor : goal.invariant-loop-processor
invariant-loop-processor l = first_held l.me l.watch l.processor (16 - l.processor) ≡ first_held l.fn.me l.fn.watch 0 16

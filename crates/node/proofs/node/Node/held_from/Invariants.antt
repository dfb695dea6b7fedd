use Rattle.std.proofs.Common.{◌≡◌, ◌≤◌, ◌<◌, ℕ, true, slice_get}
use Rattle.event_parts.specs.packet_wires.specs.Idle.{holds_nothing}
use Rattle.node.proofs.node.Node.held_from.Given as goal

abbrev pub invariant-loop-other : goal.invariant-loop-other
invariant-loop-other l =
    (y : ℕ) → l.fn.first ≤ y → y < l.other → holds_nothing (slice_get l.fn.self.ends y) ≡ true

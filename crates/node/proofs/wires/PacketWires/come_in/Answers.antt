use Rattle.std.proofs.Common.{◌≡◌, ℕ, Some, slice_get, refl, arith, ◌∙◌, ap₂}
use Rattle.std.proofs.lemmas.Option.{slice_get_read}
use Rattle.link_control.specs.Ends.{after_packet, sent_by_packet}
use Rattle.packet_words.specs.declared.packet.Packet.{Packet}
use Rattle.event_parts.specs.packet_wires.specs.Wires.{Wires, any_goes_over, at_end}
use Rattle.event_parts.specs.Parts.{carried_out}
use Rattle.node.specs.contracts.wires.PacketWires.{the_view}
use Rattle.node.proofs.Ends.{carried-end, does_at}
use Rattle.node.proofs.wires.PacketWires.come_in.Goals as goal

there : (c : goal.After-put_any) → slice_get c.self.inside.nodes.items c.from-place.result ≡ Some c.index_mut.result.now
there c = slice_get_read c.self.inside.nodes.items _ _ _ refl (omega (arith, c.self.inside.nodes.ok.0))
    c.index_mut.ensures.value

pub returns-clause-after : goal.returns-clause-after
returns-clause-after c =
    let packet : Packet = c.args.packet.now in
    c.put_any.ensures
    ∙ carried-end c.from-place.result packet.sender (after_packet packet) (sent_by_packet packet)
    (any_goes_over c.args.bus) (λ midst. refl) (the_view c.self.inside)
    c.index_mut.result.now (there c) c.on_packet.new.self c.in_ok-arrived.arrived.send c.in_ok-arrived.ensures.after
    c.in_ok-arrived.ensures.sent
    ∙ ap₂ (λ (x : ℕ) (wires : Wires). carried_out
    (at_end x packet.sender (does_at x packet.sender (after_packet packet) (sent_by_packet packet)
    (any_goes_over c.args.bus))) wires)
    c.from-place.ensures c.self.view_is

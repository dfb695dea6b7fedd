use Rattle.std.proofs.Common.{◌≡◌, ℕ, Some, slice_get, refl, arith, ◌∙◌, ap₂}
use Rattle.std.proofs.lemmas.Option.{slice_get_read}
use Rattle.schedule.specs.declared.bus_name.BusName.TheVariants as bus
use Rattle.link_control.specs.Ends.{after_push, sent_by_push}
use Rattle.event_parts.specs.packet_wires.specs.Wires.{Wires, any_goes_over, at_end, push_at}
use Rattle.event_parts.specs.Parts.{carried_out}
use Rattle.node.specs.contracts.wires.PacketWires.{the_view}
use Rattle.node.proofs.Ends.{carried-end}
use Rattle.node.proofs.wires.PacketWires.send.Goals as goal

there : (c : goal.After-put_any) → slice_get c.self.inside.nodes.items c.from-place.result ≡ Some c.index_mut.result.now
there c = slice_get_read c.self.inside.nodes.items _ _ _ refl (omega (arith, c.self.inside.nodes.ok.0))
    c.index_mut.ensures.value

pub returns : goal.returns
returns c =
    c.put_any.ensures
    ∙ carried-end c.from-place.result c.args.to (after_push c.args.message) (sent_by_push c.args.message)
    (any_goes_over bus.X) (λ midst. refl) (the_view c.self.inside)
    c.index_mut.result.now (there c) c.push.new.self c.in_ok-packet.packet c.in_ok-packet.ensures.after
    c.in_ok-packet.ensures.sent
    ∙ ap₂ (λ (x : ℕ) (wires : Wires). carried_out (at_end x c.args.to (push_at x c.args.to c.args.message)) wires)
    c.from-place.ensures c.self.view_is

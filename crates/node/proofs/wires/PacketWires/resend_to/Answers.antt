use Rattle.std.proofs.Common.{◌≡◌, ℕ, Some, slice_get, refl, arith, ◌∙◌, ap₂}
use Rattle.std.proofs.lemmas.Option.{slice_get_read}
use Rattle.link_control.specs.Ends.{after_tick, sent_by_tick}
use Rattle.event_parts.specs.packet_wires.specs.Wires.{Wires, at_end, goes_again, tick_at}
use Rattle.event_parts.specs.Parts.{carried_out}
use Rattle.node.specs.contracts.wires.PacketWires.{the_view}
use Rattle.node.proofs.Ends.{carried-end}
use Rattle.node.proofs.wires.PacketWires.resend_to.Goals as goal

there : (c : goal.After-put_again) → slice_get c.self.inside.nodes.items c.from-place.result
    ≡ Some c.index_mut.result.now
there c = slice_get_read c.self.inside.nodes.items _ _ _ refl (omega (arith, c.self.inside.nodes.ok.0))
    c.index_mut.ensures.value

pub returns : goal.returns
returns c =
    c.put_again.ensures
    ∙ carried-end c.from-place.result c.args.to after_tick sent_by_tick goes_again (λ midst. refl)
    (the_view c.self.inside) c.index_mut.result.now (there c)
    c.on_tick-resent.new.self c.on_tick-resent.result c.on_tick-resent.ensures.after c.on_tick-resent.ensures.sent
    ∙ ap₂ (λ (x : ℕ) (wires : Wires). carried_out (at_end x c.args.to (tick_at x c.args.to)) wires)
    c.from-place.ensures c.self.view_is

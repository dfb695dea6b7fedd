use Rattle.std.proofs.Common.{◌≡◌, ℕ, Some, slice_get, refl, arith, ◌∙◌, ap₂}
use Rattle.std.proofs.lemmas.Option.{slice_get_read}
use Rattle.link_control.specs.Ends.{after_down}
use Rattle.event_parts.specs.packet_wires.specs.Wires.{Wires, at_end, down_at}
use Rattle.event_parts.specs.Parts.{carried_out}
use Rattle.node.specs.contracts.wires.PacketWires.{the_view}
use Rattle.node.proofs.Ends.{carried-quietly}
use Rattle.node.proofs.wires.PacketWires.throw_away.Goals as goal

there : (c : goal.After-self-1) → slice_get c.self.inside.nodes.items c.from-place.result ≡ Some c.index_mut.result.now
there c = slice_get_read c.self.inside.nodes.items _ _ _ refl (omega (arith, c.self.inside.nodes.ok.0))
    c.index_mut.ensures.value

pub returns-then-place-len : goal.returns-then-place-len
returns-then-place-len c =
    carried-quietly c.from-place.result c.args.processor after_down (the_view c.self.inside) c.index_mut.result.now
    (there c) c.throw_away.new.self
    c.throw_away.ensures
    ∙ ap₂ (λ (x : ℕ) (wires : Wires). carried_out (at_end x c.args.processor (down_at x c.args.processor)) wires)
    c.from-place.ensures c.self.view_is

use Rattle.std.proofs.Common.{◌≡◌, ◌≤◌, ℕ, Option, Some, slice_get, length, refl, arith, sym, ◌∙◌, ap, ap₂}
use Rattle.std.specs.Option.{option_and_then}
use Rattle.std.proofs.lemmas.Option.{slice_get_past, slice_get_read}
use Rattle.alive_regroup.specs.Watching as watching
use Rattle.event_parts.specs.packet_wires.specs.Lines.{line_pulled}
use Rattle.event_parts.specs.packet_wires.specs.Nodes.{Node}
use Rattle.event_parts.specs.packet_wires.specs.Wires.{Wires}
use Rattle.node.specs.Calls.{with_watch_changed}
use Rattle.node.proofs.Lines.{line-ticked}
use Rattle.node.proofs.wires.PacketWires.line_after_tick.Goals as goal

later : ℕ → Option Node → Option ℕ
later x found =
    option_and_then (λ (node : Node). line_pulled x (with_watch_changed watching.after_tick node)) found

pub returns-then-place-len : goal.returns-then-place-len
unfolding later
returns-then-place-len c =
    let past : length c.self.inside.nodes.items ≤ c.from-place.result = omega (arith, c.self.inside.nodes.ok.0) in
    λ processors. sym (ap (later c.args.node) (slice_get_past c.self.inside.nodes.items c.from-place.result past))
    ∙ ap₂ (λ (x : ℕ) (wires : Wires). later c.args.node (slice_get wires.nodes x)) c.from-place.ensures c.self.view_is
    ∙ line-ticked processors c.args.node c.args.self.now.nodes

pub returns : goal.returns
unfolding later
returns c =
    let there : slice_get c.self.inside.nodes.items c.from-place.result ≡ Some c.index.result.now =
    slice_get_read c.self.inside.nodes.items _ _ _ refl (omega (arith, c.self.inside.nodes.ok.0)) c.index.ensures in
    λ processors. c.line_after_tick.ensures ∙ sym (ap (later c.args.node) there)
    ∙ ap₂ (λ (x : ℕ) (wires : Wires). later c.args.node (slice_get wires.nodes x)) c.from-place.ensures c.self.view_is
    ∙ line-ticked processors c.args.node c.args.self.now.nodes

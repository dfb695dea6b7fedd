use Rattle.std.proofs.Common.{◌≡◌, ℕ, ℤ, List, ◌∙◌, ap, ap₂}
use Rattle.event_parts.specs.packet_wires.specs.message_layout.specs.Messages.{Declaring}
use Rattle.event_parts.specs.packet_wires.specs.message_layout.specs.Layout.{words_of}
use Rattle.event_parts.specs.packet_wires.specs.Nodes.{others}
use Rattle.event_parts.specs.packet_wires.specs.Wires.{Wires, at_end, for_each, push_at}
use Rattle.event_parts.specs.Parts.{carried_out}
use Rattle.event_parts.proofs.Adds.{adds-push}
use Rattle.event_parts.proofs.Numbers.{can-for-each, can-push}
use Rattle.node.proofs.Loops.{can-after, last-turn}
use Rattle.node.proofs.wires.PacketWires.declare.Goals as goal

pub send-requires-clause-numbered : goal.send-requires-clause-numbered
send-requires-clause-numbered c =
    let words : List ℤ = c.as_slice.result.now in
    let each : List ℕ = others c.args.processors c.args.from in
    can-after (for_each (λ y. at_end c.args.from y (push_at c.args.from y words)) each)
    (can-for-each (λ y. at_end c.args.from y (push_at c.args.from y words)) (λ y. can-push c.args.from y words) each)
    c.args.self.now _ c.requires c.in_ok-send_others.ensures

pub returns : goal.returns
returns c =
    let words : List ℤ = words_of (Declaring c.args.processor) in
    let each : List ℕ = others c.args.processors c.args.from in
    let same : c.as_slice.result.now ≡ words = cc (c.in_ok-words.ensures) in
    c.in_ok-send.ensures
    ∙ ap₂ (λ (w : List ℤ) (wires : Wires). carried_out (at_end c.args.from 16 (push_at c.args.from 16 w)) wires)
    c.in_ok-words.ensures
    (c.in_ok-send_others.ensures
    ∙ ap (λ (w : List ℤ). carried_out (for_each (λ y. at_end c.args.from y (push_at c.args.from y w)) each)
    c.args.self.now) same)
    ∙ last-turn (λ y. at_end c.args.from y (push_at c.args.from y words)) (λ y. adds-push c.args.from y words) each 16
    c.args.self.now

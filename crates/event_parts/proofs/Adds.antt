-- What nodes do only adds to what was sent before.
use Rattle.std.proofs.Common.{◌≡◌, ℕ, ◌==◌, ℤ, Bool, true, false, if◌then◌else◌, List, [], ◌∷◌, ◌++◌, Option, Some}
use Rattle.std.proofs.Common.{map, None, slice_get, refl, ap, sym, ◌∙◌, append_assoc, append-nil}
use Rattle.schedule.specs.declared.bus_name.BusName.{BusName}
use Rattle.schedule.specs.declared.bus_name.BusName.TheVariants as bus
use Rattle.packet_words.specs.declared.packet.Packet.{Packet}
use Rattle.packet_words.specs.declared.packet.PacketKind.TheVariants as kind
use Rattle.link_control.specs.declared.channel.Resent.{Resent}
use Rattle.link_control.specs.Ends.{End, packet_of, after_push, sent_by_push, after_packet, sent_by_packet, after_tick}
use Rattle.link_control.specs.Ends.{sent_by_tick, after_down}
use Rattle.alive_regroup.specs.declared.set.ProcessorSet.{ProcessorSet}
use Rattle.alive_regroup.specs.Watching as watching
use Rattle.alive_regroup.specs.Watching.{Watching, changed_at, told_by_tick}
use Rattle.packet_wires.specs.world_semantics.specs.World.{is_running, terminal_node}
use Rattle.packet_wires.specs.message_layout.specs.Messages.{NodeMessage, Reporting, Declaring}
use Rattle.packet_wires.specs.message_layout.specs.Layout.{words_of}
use Rattle.packet_wires.specs.Nodes.{Node, all_nodes, node_after_reload, others, with_end, with_watch}
use Rattle.packet_wires.specs.Parcels.{Parcel}
use Rattle.packet_wires.specs.Wires.{Midst, Outgoing, nothing_sent, goes_over, any_goes_over, goes_again, at_node}
use Rattle.packet_wires.specs.Wires.{at_end_of, at_end, end_changed, watch_changed, learns, for_each, push_at, sends}
use Rattle.packet_wires.specs.Wires.{sends_all, posted, all_posted, bus_of_answer, heard_of, arrive_at}
use Rattle.packet_wires.specs.Wires.{midst_after_arrival}
use Rattle.packet_wires.specs.Wires.{alive_at, tells_alive, reports, check_at, checks, tick_at, resends}
use Rattle.packet_wires.specs.Wires.{midst_after_tick}
use Rattle.packet_wires.specs.Wires.{down_at, cut_off, declares, loaded_again}
use Rattle.event_parts.specs.Parts.{OnlyAdds, sent_earlier}

-- What is put together

pub adds-nothing : OnlyAdds (λ midst. midst)
adds-nothing midst = ap (λ (out : List Outgoing). record midst { out = out }) (sym (append-nil midst.out))

pub adds-nodes : (change : List Node → List Node) → OnlyAdds (λ midst. record midst { nodes = change midst.nodes })
adds-nodes change midst = adds-nothing (record midst { nodes = change midst.nodes })

pub adds-then : (first second : Midst → Midst) → OnlyAdds first → OnlyAdds second
    → OnlyAdds (λ midst. second (first midst))
adds-then first second adds_first adds_second midst =
    let one : Midst = first (nothing_sent midst.nodes) in
    let two : Midst = second (nothing_sent one.nodes) in
    ap second (adds_first midst)
    ∙ adds_second (sent_earlier midst.out one)
    ∙ ap (λ (out : List Outgoing). record two { out = out }) (append_assoc midst.out one.out two.out)
    ∙ sym (ap (sent_earlier midst.out) (adds_second one))

pub adds-if : (test : Bool) (yes_part no_part : Midst → Midst) → OnlyAdds yes_part → OnlyAdds no_part
    → OnlyAdds (λ midst. if test then yes_part midst else no_part midst)
adds-if true yes_part no_part adds_yes adds_no = adds_yes
adds-if false yes_part no_part adds_yes adds_no = adds_no

pub adds-at-node : (x : ℕ) (does : Node → Midst → Midst) → ((node : Node) → OnlyAdds (does node))
    → OnlyAdds (λ midst. at_node does (slice_get midst.nodes x) midst)
adds-at-node x does adds midst = by (slice_get midst.nodes x)
  where
    by : (found : Option Node) → at_node does found midst
        ≡ sent_earlier midst.out (at_node does found (nothing_sent midst.nodes))
    by None = adds-nothing midst
    by (Some node) = adds node midst

adds-at-end-of : (does : End → Midst → Midst) → ((e : End) → OnlyAdds (does e)) → (found : Option End)
    → OnlyAdds (at_end_of does found)
adds-at-end-of does adds None = adds-nothing
adds-at-end-of does adds (Some e) = adds e

pub adds-at-end : (x y : ℕ) (does : Node → End → Midst → Midst) → ((node : Node) (e : End) → OnlyAdds (does node e))
    → OnlyAdds (at_end x y does)
adds-at-end x y does adds =
    adds-at-node x (λ node. at_end_of (does node) (slice_get node.ends y))
    (λ node. adds-at-end-of (does node) (adds node) (slice_get node.ends y))

pub adds-for-each : (does : ℕ → Midst → Midst) → ((y : ℕ) → OnlyAdds (does y)) → (ys : List ℕ)
    → OnlyAdds (for_each does ys)
adds-for-each does adds [] = adds-nothing
adds-for-each does adds (y ∷ ys) = adds-then (does y) (for_each does ys) (adds y) (adds-for-each does adds ys)

-- Packets

pub adds-packet : (name : BusName) (packet : Packet) → OnlyAdds (goes_over name packet)
adds-packet name packet midst = refl

pub adds-any : (name : BusName) (told : Option Packet) → OnlyAdds (any_goes_over name told)
adds-any name None = adds-nothing
adds-any name (Some packet) = adds-packet name packet

pub adds-again : (told : Option Resent) → OnlyAdds (goes_again told)
adds-again None = adds-nothing
adds-again (Some resent) = adds-packet resent.bus resent.packet

-- Ends and watches

adds-end : (x y : ℕ) (node : Node) (e : End) → OnlyAdds (end_changed x y node e)
adds-end x y node e = adds-nodes (with_end x y node e)

pub adds-learns : (x : ℕ) (change : Watching → Watching) → OnlyAdds (learns x change)
adds-learns x change =
    adds-at-node x (watch_changed x change) (λ node. adds-nodes (with_watch x node (change node.watch)))

pub adds-push : (x y : ℕ) (words : List ℤ) → OnlyAdds (at_end x y (push_at x y words))
adds-push x y words =
    adds-at-end x y (push_at x y words)
    (λ node e. adds-then (end_changed x y node (after_push words e)) (any_goes_over bus.X (sent_by_push words e))
    (adds-end x y node (after_push words e)) (adds-any bus.X (sent_by_push words e)))

pub adds-tick : (x y : ℕ) → OnlyAdds (at_end x y (tick_at x y))
adds-tick x y =
    adds-at-end x y (tick_at x y)
    (λ node e. adds-then (end_changed x y node (after_tick e)) (goes_again (sent_by_tick e))
    (adds-end x y node (after_tick e)) (adds-again (sent_by_tick e)))

pub adds-alive : (x y : ℕ) → OnlyAdds (at_end x y alive_at)
adds-alive x y = adds-at-end x y alive_at (λ node e. both e)
  where
    both : (e : End) → OnlyAdds (λ midst. if e.down then midst else goes_over bus.Y (packet_of e kind.Alive)
        (goes_over bus.X (packet_of e kind.Alive) midst))
    both e =
        adds-if e.down (λ midst. midst) (λ midst.
        goes_over bus.Y (packet_of e kind.Alive) (goes_over bus.X (packet_of e kind.Alive) midst)) adds-nothing
        (adds-then (goes_over bus.X (packet_of e kind.Alive)) (goes_over bus.Y (packet_of e kind.Alive))
        (adds-packet bus.X (packet_of e kind.Alive)) (adds-packet bus.Y (packet_of e kind.Alive)))

-- Messages

pub adds-sends : (x y : ℕ) (message : NodeMessage) → OnlyAdds (sends x y message)
adds-sends x y message = adds-push x y (words_of message)

pub adds-sends-all : (x : ℕ) (message : NodeMessage) (ys : List ℕ) → OnlyAdds (sends_all x message ys)
adds-sends-all x message = adds-for-each (λ y. sends x y message) (λ y. adds-sends x y message)

adds-posted : (stopped : List Bool) (parcel : Parcel) → OnlyAdds (posted stopped parcel)
adds-posted stopped parcel =
    adds-if (is_running stopped parcel.sender) (sends parcel.sender parcel.receiver parcel.content)
    (λ midst. midst)
    (adds-sends parcel.sender parcel.receiver parcel.content) adds-nothing

pub adds-all-posted : (stopped : List Bool) (parcels : List Parcel) → OnlyAdds (all_posted stopped parcels)
adds-all-posted stopped [] = adds-nothing
adds-all-posted stopped (parcel ∷ parcels) =
    adds-then (posted stopped parcel) (all_posted stopped parcels) (adds-posted stopped parcel)
    (adds-all-posted stopped parcels)

pub adds-arrived : (name : BusName) (packet : Packet) → OnlyAdds (midst_after_arrival name packet)
adds-arrived name packet =
    adds-then (at_end packet.receiver packet.sender (arrive_at name packet))
    (learns packet.receiver (heard_of packet.sender packet.kind))
    (adds-at-end packet.receiver packet.sender (arrive_at name packet) arrives)
    (adds-learns packet.receiver (heard_of packet.sender packet.kind))
  where
    arrives : (node : Node) (e : End) → OnlyAdds (arrive_at name packet node e)
    arrives node e =
        adds-then (end_changed packet.receiver packet.sender node (after_packet packet e))
        (any_goes_over (bus_of_answer name packet.kind) (sent_by_packet packet e))
        (adds-end packet.receiver packet.sender node (after_packet packet e))
        (adds-any (bus_of_answer name packet.kind) (sent_by_packet packet e))

-- Ticks

pub adds-tells-alive : (processors x : ℕ) → OnlyAdds (tells_alive processors x)
adds-tells-alive processors x =
    adds-if (x == terminal_node) (λ midst. midst) (for_each (λ y. at_end x y alive_at) (others processors x))
    adds-nothing
    (adds-for-each (λ y. at_end x y alive_at) (λ y. adds-alive x y) (others processors x))

adds-reports : (processors x : ℕ) (told : Option ProcessorSet) → OnlyAdds (reports processors x told)
adds-reports processors x None = adds-nothing
adds-reports processors x (Some silent) = adds-sends-all x (Reporting x silent) (others processors x)

pub adds-checks : (processors x : ℕ) → OnlyAdds (checks processors x)
adds-checks processors x =
    adds-at-node x (check_at processors x)
    (λ node. adds-then (watch_changed x watching.after_tick node) (reports processors x (told_by_tick node.watch))
    (adds-nodes (with_watch x node (watching.after_tick node.watch)))
    (adds-reports processors x (told_by_tick node.watch)))

pub adds-resends : (x : ℕ) → OnlyAdds (resends x)
adds-resends x = adds-for-each (λ y. at_end x y (tick_at x y)) (λ y. adds-tick x y) all_nodes

pub adds-ticked : (processors x : ℕ) → OnlyAdds (midst_after_tick processors x)
adds-ticked processors x =
    adds-then (λ midst. checks processors x (tells_alive processors x midst)) (resends x)
    (adds-then (tells_alive processors x) (checks processors x) (adds-tells-alive processors x)
    (adds-checks processors x)) (adds-resends x)

-- Marks

adds-down : (x y : ℕ) → OnlyAdds (at_end x y (down_at x y))
adds-down x y = adds-at-end x y (down_at x y) (λ node e. adds-end x y node (after_down e))

pub adds-cut-off : (x y : ℕ) → OnlyAdds (cut_off x y)
adds-cut-off x y =
    adds-then (at_end x y (down_at x y)) (learns x (changed_at y watching.neighbour_after_down)) (adds-down x y)
    (adds-learns x (changed_at y watching.neighbour_after_down))

pub adds-declares : (processors x processor : ℕ) → OnlyAdds (declares processors x processor)
adds-declares processors x processor =
    adds-sends-all x (Declaring processor) (others processors x ++ terminal_node ∷ [])

-- Reloads

pub adds-loaded : (processors x : ℕ) → OnlyAdds (loaded_again processors x)
adds-loaded processors x = adds-nodes (map (node_after_reload processors x))

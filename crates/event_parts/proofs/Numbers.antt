-- What is pushed goes on to find a number at each end.
use Rattle.std.proofs.Common.{◌≡◌, ℕ, ◌+◌, ◌*◌, ◌<◌, ◌==◌, nat_lt, ℤ, Bool, true, false, if◌then◌else◌, List, [], ◌∷◌}
use Rattle.std.proofs.Common.{◌++◌, length, Option, Some, None, slice_get, slice_set, refl, subst, sym, arith}
use Rattle.schedule.specs.declared.bus_name.BusName.{BusName}
use Rattle.schedule.specs.declared.bus_name.BusName.TheVariants as bus
use Rattle.packet_words.specs.declared.packet.Packet.{Packet}
use Rattle.packet_words.specs.declared.packet.PacketKind.{PacketKind}
use Rattle.packet_words.specs.declared.packet.PacketKind.TheVariants as kind
use Rattle.schedule.specs.Buses.{other_bus}
use Rattle.link_control.specs.declared.channel.Resent.{Resent}
use Rattle.link_control.specs.Ends.{End, HasNumberForPush, HasNumbersLeft, after_down}
use Rattle.link_control.specs.Ends.{after_kind, after_packet, after_push, after_tick, new_sending, is_ended_by, is_idle}
use Rattle.link_control.specs.Ends.{is_none, moved_on, numbered_at, packet_of, after_push_of, sent_by_packet}
use Rattle.link_control.specs.Ends.{sent_by_push, sent_by_tick, end_after_reload, is_of, next_end}
use Rattle.alive_regroup.specs.declared.set.ProcessorSet.{ProcessorSet}
use Rattle.alive_regroup.specs.Watching as watching
use Rattle.alive_regroup.specs.Watching.{Watching, changed_at, told_by_tick}
use Rattle.packet_wires.specs.world_semantics.specs.World.{is_running, terminal_node}
use Rattle.packet_wires.specs.world_semantics.proofs.Lists.{mapped, set-all}
use Rattle.packet_wires.specs.message_layout.specs.Messages.{NodeMessage, Reporting, Declaring}
use Rattle.packet_wires.specs.message_layout.specs.Layout.{words_of}
use Rattle.packet_wires.specs.Nodes.{Node, all_nodes, node_after_reload, others, with_end, with_watch}
use Rattle.packet_wires.specs.Parcels.{Parcel}
use Rattle.packet_wires.specs.Wires as wires
use Rattle.packet_wires.specs.Wires.{Midst, goes_over, any_goes_over, goes_again, at_node, at_end_of, at_end}
use Rattle.packet_wires.specs.Wires.{end_changed, watch_changed, learns, for_each, push_at, sends, sends_all, posted}
use Rattle.packet_wires.specs.Wires.{all_posted, bus_of_answer, heard_of, arrive_at, midst_after_arrival, alive_at}
use Rattle.packet_wires.specs.Wires.{tells_alive}
use Rattle.packet_wires.specs.Wires.{reports, check_at, checks, tick_at, down_at, cut_off, declares, loaded_again}
use Rattle.event_parts.specs.Numbers.{CanPush, HasNumbersAt, NodeCanPush}

-- One end

busy : (message : List ℤ) (queue : List (List ℤ)) → is_none (queue ++ message ∷ []) ≡ true → ⊥
busy message [] idle = cc
busy message (first ∷ queue) idle = cc

push-has : (message : List ℤ) (e : End) → HasNumberForPush e → HasNumberForPush (after_push message e)
push-has message e has = by e.down
  where
    queued : (test : Bool) → is_idle (if test then new_sending (message ∷ []) e.sending.numbered else record e.sending
        { queue = e.sending.queue ++ message ∷ [] }) ≡ true
        → ⊥
    queued true idle = cc
    queued false idle = busy message e.sending.queue idle

    by : (down : Bool) → HasNumberForPush (if down then e else record e { sending = after_push_of message e.sending })
    by true = has
    by false = λ up idle. absurd (queued (is_idle e.sending) idle)

tick-has : (e : End) → HasNumberForPush e → HasNumberForPush (after_tick e)
tick-has e has = by e.down (is_idle e.sending) e.sending.waited
  where
    by : (down idle waited : Bool)
        → HasNumberForPush (if down then e else record e {
          sending = if idle then e.sending else if waited then record e.sending
              { resend_bus = other_bus e.sending.resend_bus } else record e.sending { waited = true };
        })
    by true idle waited = has
    by false true waited = has
    by false false true = has
    by false false false = has

down-has : (e : End) → HasNumberForPush (after_down e)
down-has e = λ up idle. absurd cc

packet-has : (packet : Packet) (e : End) → HasNumbersLeft e → HasNumberForPush e
    → HasNumberForPush (after_packet packet e)
packet-has packet e left has = by e.down packet.kind
  where
    goes-on : (queue : List (List ℤ)) (up : e.down ≡ false) → is_idle (new_sending queue e.sending.numbered) ≡ true
        → (new_sending queue e.sending.numbered).numbered < 4294967295
    goes-on [] up idle = left.0
    goes-on (message ∷ queue) up idle = absurd cc

    moves : (queue : List (List ℤ)) → e.down ≡ false → is_idle (moved_on queue e.sending) ≡ true
        → (moved_on queue e.sending).numbered < 4294967295
    moves [] up idle = left.0
    moves (message ∷ queue) up idle = further (nat_lt (10 * (e.sending.place + 1)) (length message)) idle
      where
        further : (more : Bool)
            → is_idle (if more then numbered_at (e.sending.place + 1) (message ∷ queue) e.sending.numbered
            else new_sending queue e.sending.numbered) ≡ true
            → (if more then numbered_at (e.sending.place + 1) (message ∷ queue) e.sending.numbered
            else new_sending queue e.sending.numbered).numbered < 4294967295
        further true idle = absurd cc
        further false idle = goes-on queue up idle

    ends : (test : Bool) → e.down ≡ false → is_idle (if test then moved_on e.sending.queue e.sending else e.sending)
        ≡ true
        → (if test then moved_on e.sending.queue e.sending else e.sending).numbered < 4294967295
    ends true up idle = moves e.sending.queue up idle
    ends false up idle = left.0

    by : (down : Bool) (k : PacketKind) → HasNumberForPush (if down then e else after_kind k e)
    by true k = has
    by false kind.Alive = has
    by false (kind.Piece number piece) = has
    by false (kind.Acknowledgement number) = ends (is_ended_by number e.sending)

reload-has : (x : ℕ) (e : End) → HasNumberForPush e → HasNumberForPush (end_after_reload x e)
reload-has x e has = by (is_of x e)
  where
    by : (test : Bool) → HasNumberForPush (if test then next_end x e else e)
    by true = λ up idle. omega arith
    by false = has

-- Ends of nodes

abbrev Keeps : (Midst → Midst) → Type 0
Keeps part = (midst : Midst) → CanPush midst.nodes → CanPush (part midst).nodes

can-set : (x y : ℕ) (node : Node) (e : End) (nodes : List Node) → slice_get nodes x ≡ Some node → HasNumberForPush e
    → CanPush nodes
    → CanPush (with_end x y node e nodes)
can-set x y node e nodes there has can =
    set-all (λ k one. NodeCanPush one) nodes x (record node { ends = slice_set node.ends y e }) can
    (set-all (λ k one. HasNumberForPush one) node.ends y e (can x node there) has)

pub can-watch : (x : ℕ) (node : Node) (watch : Watching) (nodes : List Node) → slice_get nodes x ≡ Some node
    → CanPush nodes → CanPush (with_watch x node watch nodes)
can-watch x node watch nodes there can =
    set-all (λ k one. NodeCanPush one) nodes x (record node { watch = watch }) can (can x node there)

any-same : (name : BusName) (told : Option Packet) (midst : Midst) → CanPush midst.nodes
    → CanPush (any_goes_over name told midst).nodes
any-same name None midst can = can
any-same name (Some packet) midst can = can

again-same : (told : Option Resent) (midst : Midst) → CanPush midst.nodes → CanPush (goes_again told midst).nodes
again-same None midst can = can
again-same (Some resent) midst can = can

module _ (x y : ℕ) (does : Node → End → Midst → Midst) (midst : Midst) (can : CanPush midst.nodes)
    (keeps : (node : Node) (e : End) → slice_get midst.nodes x ≡ Some node → slice_get node.ends y ≡ Some e
    → CanPush (does node e midst).nodes) where
  can-end-of : (node : Node) → slice_get midst.nodes x ≡ Some node → (found : Option End)
      → slice_get node.ends y ≡ found
      → CanPush (at_end_of (does node) found midst).nodes
  can-end-of node there None is = can
  can-end-of node there (Some e) is = keeps node e there is

  can-node : (found : Option Node) → slice_get midst.nodes x ≡ found
      → CanPush (at_node (λ node. at_end_of (does node) (slice_get node.ends y)) found midst).nodes
  can-node None is = can
  can-node (Some node) is = can-end-of node is (slice_get node.ends y) refl

  pub can-end : CanPush (at_end x y does midst).nodes
  can-end = can-node (slice_get midst.nodes x) refl

pub can-learns : (x : ℕ) (change : Watching → Watching) → Keeps (learns x change)
can-learns x change midst can = by (slice_get midst.nodes x) refl
  where
    by : (found : Option Node) → slice_get midst.nodes x ≡ found
        → CanPush (at_node (watch_changed x change) found midst).nodes
    by None is = can
    by (Some node) is = can-watch x node (change node.watch) midst.nodes is can

pub can-for-each : (does : ℕ → Midst → Midst) → ((y : ℕ) → Keeps (does y)) → (ys : List ℕ) → Keeps (for_each does ys)
can-for-each does keeps [] midst can = can
can-for-each does keeps (y ∷ ys) midst can = can-for-each does keeps ys (does y midst) (keeps y midst can)

-- What nodes do

pub can-push : (x y : ℕ) (words : List ℤ) → Keeps (at_end x y (push_at x y words))
can-push x y words midst can =
    can-end x y (push_at x y words) midst can
    (λ node e there has. any-same bus.X (sent_by_push words e) (end_changed x y node (after_push words e) midst)
    (can-set x y node (after_push words e) midst.nodes there (push-has words e (can x node there y e has)) can))

can-tick : (x y : ℕ) → Keeps (at_end x y (tick_at x y))
can-tick x y midst can =
    can-end x y (tick_at x y) midst can (λ node e there has.
    again-same (sent_by_tick e) (end_changed x y node (after_tick e) midst)
    (can-set x y node (after_tick e) midst.nodes there (tick-has e (can x node there y e has)) can))

can-alive : (x y : ℕ) → Keeps (at_end x y alive_at)
can-alive x y midst can = can-end x y alive_at midst can (λ node e there has. by e e.down)
  where
    by : (e : End) (down : Bool)
        → CanPush (if down then midst else goes_over bus.Y (packet_of e kind.Alive)
        (goes_over bus.X (packet_of e kind.Alive) midst)).nodes
    by e true = can
    by e false = can

can-down : (x y : ℕ) → Keeps (at_end x y (down_at x y))
can-down x y midst can =
    can-end x y (down_at x y) midst can (λ node e there has.
    can-set x y node (after_down e) midst.nodes there (down-has e) can)

can-arrive : (name : BusName) (packet : Packet) (midst : Midst)
    → HasNumbersAt packet.receiver packet.sender midst.nodes → CanPush midst.nodes
    → CanPush (at_end packet.receiver packet.sender (arrive_at name packet) midst).nodes
can-arrive name packet midst left can =
    can-end packet.receiver packet.sender (arrive_at name packet) midst can
    (λ node e there has. any-same (bus_of_answer name packet.kind) (sent_by_packet packet e)
    (end_changed packet.receiver packet.sender node (after_packet packet e) midst)
    (can-set packet.receiver packet.sender node (after_packet packet e) midst.nodes there
    (packet-has packet e (left node there e has) (can packet.receiver node there packet.sender e has)) can))

pub can-arrived : (name : BusName) (packet : Packet) (midst : Midst)
    → HasNumbersAt packet.receiver packet.sender midst.nodes → CanPush midst.nodes
    → CanPush (midst_after_arrival name packet midst).nodes
can-arrived name packet midst left can =
    can-learns packet.receiver (heard_of packet.sender packet.kind)
    (at_end packet.receiver packet.sender (arrive_at name packet) midst)
    (can-arrive name packet midst left can)

can-sends-all : (x : ℕ) (message : NodeMessage) (ys : List ℕ) → Keeps (sends_all x message ys)
can-sends-all x message = can-for-each (λ y. sends x y message) (λ y. can-push x y (words_of message))

can-posted : (stopped : List Bool) (parcel : Parcel) → Keeps (posted stopped parcel)
can-posted stopped parcel midst can = by (is_running stopped parcel.sender)
  where
    by : (runs : Bool) → CanPush (if runs then sends parcel.sender parcel.receiver parcel.content midst else
        midst).nodes
    by true = can-push parcel.sender parcel.receiver (words_of parcel.content) midst can
    by false = can

pub can-all-posted : (stopped : List Bool) (parcels : List Parcel) → Keeps (all_posted stopped parcels)
can-all-posted stopped [] midst can = can
can-all-posted stopped (parcel ∷ parcels) midst can =
    can-all-posted stopped parcels (posted stopped parcel midst) (can-posted stopped parcel midst can)

pub can-tells-alive : (processors x : ℕ) → Keeps (tells_alive processors x)
can-tells-alive processors x midst can = by (x == terminal_node)
  where
    by : (test : Bool) → CanPush (if test then midst else for_each (λ y. at_end x y alive_at) (others processors x)
        midst).nodes
    by true = can
    by false = can-for-each (λ y. at_end x y alive_at) (λ y. can-alive x y) (others processors x) midst can

can-reports : (processors x : ℕ) (told : Option ProcessorSet) → Keeps (reports processors x told)
can-reports processors x None midst can = can
can-reports processors x (Some silent) midst can = can-sends-all x (Reporting x silent) (others processors x) midst can

can-checks : (processors x : ℕ) → Keeps (checks processors x)
can-checks processors x midst can = by (slice_get midst.nodes x) refl
  where
    by : (found : Option Node) → slice_get midst.nodes x ≡ found
        → CanPush (at_node (check_at processors x) found midst).nodes
    by None is = can
    by (Some node) is =
        can-reports processors x (told_by_tick node.watch) (watch_changed x watching.after_tick node midst)
        (can-watch x node (watching.after_tick node.watch) midst.nodes is can)

pub can-ticked : (processors x : ℕ) → Keeps (wires.midst_after_tick processors x)
can-ticked processors x midst can =
    can-for-each (λ y. at_end x y (tick_at x y)) (λ y. can-tick x y) all_nodes
    (checks processors x (tells_alive processors x midst))
    (can-checks processors x (tells_alive processors x midst) (can-tells-alive processors x midst can))

pub can-cut-off : (x y : ℕ) → Keeps (cut_off x y)
can-cut-off x y midst can =
    can-learns x (changed_at y watching.neighbour_after_down) (at_end x y (down_at x y) midst) (can-down x y midst can)

pub can-declares : (processors x processor : ℕ) → Keeps (declares processors x processor)
can-declares processors x processor = can-sends-all x (Declaring processor) (others processors x ++ terminal_node ∷ [])

pub can-loaded : (processors x : ℕ) → Keeps (loaded_again processors x)
can-loaded processors x midst can y one there =
    let was = mapped (node_after_reload processors x) midst.nodes y one there in
    subst NodeCanPush (sym was.2) (of was.0 (can y was.0 was.1))
  where
    of : (node : Node) → NodeCanPush node → NodeCanPush (node_after_reload processors x node)
    of node can z e at =
        let was = mapped (end_after_reload x) node.ends z e at in
        subst HasNumberForPush (sym was.2) (reload-has x was.0 (can z was.0 was.1))

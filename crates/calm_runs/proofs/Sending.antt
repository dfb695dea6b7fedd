-- What is sent and what happens to ends changes nothing that a node knows of the processors, and takes back nothing
-- that
-- was sent.
use Rattle.std.proofs.Common.{◌≡◌, ℕ, ◌∙◌, ◌==◌, Bool, true, false, if◌then◌else◌, List, [], ◌∷◌, ◌++◌, slice_get}
use Rattle.std.proofs.Common.{slice_set, Option, Some, None, option_map, refl, ap, sym, subst}
use Rattle.gd_words.specs.Members.{IsAmong}
use Rattle.gd_words.proofs.Among.{among-left}
use Rattle.schedule.specs.declared.bus_name.BusName.{BusName}
use Rattle.schedule.specs.declared.bus_name.BusName.TheVariants as bus
use Rattle.packet_words.specs.declared.packet.Packet.{Packet}
use Rattle.packet_words.specs.declared.packet.PacketKind.TheVariants as kind
use Rattle.link_control.specs.declared.channel.Resent.{Resent}
use Rattle.link_control.specs.Ends.{End, packet_of, sent_by_push, after_push, sent_by_packet, sent_by_tick}
use Rattle.alive_regroup.specs.declared.set.ProcessorSet.{ProcessorSet}
use Rattle.world_semantics.specs.World.{is_running, terminal_node}
use Rattle.world_semantics.proofs.Lists.{set-there, set-other}
use Rattle.message_layout.specs.Messages.{NodeMessage, Declaring, Reporting}
use Rattle.packet_wires.specs.Parcels.{Parcel}
use Rattle.packet_wires.specs.Nodes.{Node, all_nodes, others, with_end}
use Rattle.packet_wires.specs.Wires.{Midst, Outgoing, alive_at, all_posted, any_goes_over, arrive_at, at_end, at_end_of}
use Rattle.packet_wires.specs.Wires.{at_node, bus_of_answer, declares, down_at, end_changed, for_each, goes_again}
use Rattle.packet_wires.specs.Wires.{goes_over}
use Rattle.packet_wires.specs.Wires.{posted, push_at, reports, resends, sends, sends_all, tells_alive, tick_at}
use Rattle.packet_rounds.specs.packet_nets.proofs.Nodes.{Same, are, differ, same}
use Rattle.calm_runs.specs.Sights.{watch_at}

pub record IsStill (before after : Midst) : Type 0 where
  pub watch : (q : ℕ) → watch_at after.nodes q ≡ watch_at before.nodes q
  pub out : (one : Outgoing) → IsAmong one before.out → IsAmong one after.out

pub still-none : (m : Midst) → IsStill m m
still-none m = record { watch = λ q. refl; out = λ one among. among }

pub still-on : (one other last : Midst) → IsStill one other → IsStill other last → IsStill one last
still-on one other last p q =
    record { watch = λ k. q.watch k ∙ p.watch k; out = λ packet among. q.out packet (p.out packet among) }

end-still : (x y : ℕ) (node : Node) (e : End) (m : Midst) → slice_get m.nodes x ≡ Some node
    → IsStill m (end_changed x y node e m)
end-still x y node e m there = record { watch = λ q. by q (same x q); out = λ one among. among }
  where
    new : Node
    new = record node { ends = slice_set node.ends y e }

    by : (q : ℕ) → Same x q → watch_at (with_end x y node e m.nodes) q ≡ watch_at m.nodes q
    by q (are is) = subst (λ k. watch_at (with_end x y node e m.nodes) k ≡ watch_at m.nodes k) is
        (ap (option_map (λ (n : Node). n.watch)) (set-there m.nodes x node new there)
        ∙ sym (ap (option_map (λ (n : Node). n.watch)) there))
    by q (differ apart) = ap (option_map (λ (n : Node). n.watch)) (set-other m.nodes x q new apart)

pub over-still : (name : BusName) (packet : Packet) (m : Midst) → IsStill m (goes_over name packet m)
over-still name packet m = record {
  watch = λ q. refl;
  out = λ one among. among-left one m.out (record { bus = name; packet = packet } ∷ []) among;
}

any-still : (name : BusName) (packet : Option Packet) (m : Midst) → IsStill m (any_goes_over name packet m)
any-still name None m = still-none m
any-still name (Some packet) m = over-still name packet m

again-still : (resent : Option Resent) (m : Midst) → IsStill m (goes_again resent m)
again-still None m = still-none m
again-still (Some resent) m = over-still resent.bus resent.packet m

at-end-still : (x y : ℕ) (does : Node → End → Midst → Midst) (m : Midst)
    → ((node : Node) (e : End) → slice_get m.nodes x ≡ Some node → IsStill m (does node e m))
    → IsStill m (at_end x y does m)
at-end-still x y does m still = by (slice_get m.nodes x) refl
  where
    at : (node : Node) → slice_get m.nodes x ≡ Some node → (e : Option End) → IsStill m (at_end_of (does node) e m)
    at node there None = still-none m
    at node there (Some e) = still node e there

    by : (node : Option Node) → slice_get m.nodes x ≡ node
        → IsStill m (at_node (λ node. at_end_of (does node) (slice_get node.ends y)) node m)
    by None there = still-none m
    by (Some node) there = at node there (slice_get node.ends y)

each-still : (does : ℕ → Midst → Midst) → ((y : ℕ) (m : Midst) → IsStill m (does y m)) → (ys : List ℕ) (m : Midst)
    → IsStill m (for_each does ys m)
each-still does still [] m = still-none m
each-still does still (y ∷ ys) m =
    still-on m (does y m) (for_each does ys (does y m)) (still y m) (each-still does still ys (does y m))

-- Messages

sends-still : (x y : ℕ) (message : NodeMessage) (m : Midst) → IsStill m (sends x y message m)
sends-still x y message m = at-end-still x y (push_at x y _) m (λ node e there.
    still-on m (end_changed x y node (after_push _ e) m) _ (end-still x y node (after_push _ e) m there)
    (any-still bus.X (sent_by_push _ e) (end_changed x y node (after_push _ e) m)))

sends-all-still : (x : ℕ) (message : NodeMessage) (ys : List ℕ) (m : Midst) → IsStill m (sends_all x message ys m)
sends-all-still x message ys m = each-still (λ y. sends x y message) (λ y m. sends-still x y message m) ys m

posted-still : (stopped : List Bool) (parcel : Parcel) (m : Midst) → IsStill m (posted stopped parcel m)
posted-still stopped parcel m = by (is_running stopped parcel.sender)
  where
    by : (test : Bool) → IsStill m (if test then sends parcel.sender parcel.receiver parcel.content m else m)
    by true = sends-still parcel.sender parcel.receiver parcel.content m
    by false = still-none m

pub all-posted-still : (stopped : List Bool) (parcels : List Parcel) (m : Midst)
    → IsStill m (all_posted stopped parcels m)
all-posted-still stopped [] m = still-none m
all-posted-still stopped (parcel ∷ parcels) m =
    still-on m (posted stopped parcel m) (all_posted stopped parcels (posted stopped parcel m))
    (posted-still stopped parcel m) (all-posted-still stopped parcels (posted stopped parcel m))

pub declares-still : (processors node processor : ℕ) (m : Midst) → IsStill m (declares processors node processor m)
declares-still processors node processor m =
    sends-all-still node (Declaring processor) (others processors node ++ terminal_node ∷ []) m

pub reports-still : (processors x : ℕ) (silent : Option ProcessorSet) (m : Midst)
    → IsStill m (reports processors x silent m)
reports-still processors x None m = still-none m
reports-still processors x (Some silent) m = sends-all-still x (Reporting x silent) (others processors x) m

-- Ends

pub arrive-still : (name : BusName) (packet : Packet) (m : Midst)
    → IsStill m (at_end packet.receiver packet.sender (arrive_at name packet) m)
arrive-still name packet m = at-end-still packet.receiver packet.sender (arrive_at name packet) m (λ node e there.
    still-on m (end_changed packet.receiver packet.sender node _ m) _
    (end-still packet.receiver packet.sender node _ m there)
    (any-still (bus_of_answer name packet.kind) (sent_by_packet packet e)
    (end_changed packet.receiver packet.sender node _ m)))

pub down-still : (x y : ℕ) (m : Midst) → IsStill m (at_end x y (down_at x y) m)
down-still x y m = at-end-still x y (down_at x y) m (λ node e there. end-still x y node _ m there)

pub resends-still : (x : ℕ) (m : Midst) → IsStill m (resends x m)
resends-still x m = each-still (λ y. at_end x y (tick_at x y)) (λ y m.
    at-end-still x y (tick_at x y) m (λ node e there.
    still-on m (end_changed x y node _ m) _ (end-still x y node _ m there)
    (again-still (sent_by_tick e) (end_changed x y node _ m)))) all_nodes m

-- I'm-alive packets

pub alive-still : (node : Node) (e : End) (m : Midst) → IsStill m (alive_at node e m)
alive-still node e m = by e.down
  where
    by : (down : Bool) → IsStill m (if down then m else goes_over bus.Y (packet_of e kind.Alive)
        (goes_over bus.X (packet_of e kind.Alive) m))
    by true = still-none m
    by false = still-on m (goes_over bus.X (packet_of e kind.Alive) m) _ (over-still bus.X (packet_of e kind.Alive) m)
        (over-still bus.Y (packet_of e kind.Alive) (goes_over bus.X (packet_of e kind.Alive) m))

pub one-alive-still : (x y : ℕ) (m : Midst) → IsStill m (at_end x y alive_at m)
one-alive-still x y m = at-end-still x y alive_at m (λ node e there. alive-still node e m)

pub each-alive-still : (x : ℕ) (ys : List ℕ) (m : Midst) → IsStill m (for_each (λ y. at_end x y alive_at) ys m)
each-alive-still x ys m = each-still (λ y. at_end x y alive_at) (λ y m. one-alive-still x y m) ys m

pub tells-still : (processors x : ℕ) (m : Midst) → IsStill m (tells_alive processors x m)
tells-still processors x m = by (x == terminal_node)
  where
    by : (test : Bool)
        → IsStill m (if test then m else for_each (λ y. at_end x y alive_at) (others processors x) m)
    by true = still-none m
    by false = each-alive-still x (others processors x) m

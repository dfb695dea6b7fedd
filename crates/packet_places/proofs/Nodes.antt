-- What nodes send, take in and do at ticks changes one node alone.
use Rattle.std.proofs.Common.{◌≡◌, ◌≢◌, ℕ, Bool, true, false, if◌then◌else◌, ◌==◌, List, [], ◌∷◌, ◌++◌, Option, Some}
use Rattle.std.proofs.Common.{None, slice_get, slice_set, refl, sym, ap, ◌∙◌, inl, inr}
use Rattle.gd_words.specs.Members.{IsAmong}
use Rattle.schedule.specs.declared.bus_name.BusName.{BusName}
use Rattle.schedule.specs.declared.bus_name.BusName.TheVariants as bus
use Rattle.packet_words.specs.declared.packet.Packet.{Packet}
use Rattle.packet_words.specs.declared.packet.PacketKind.TheVariants as kind
use Rattle.link_control.specs.declared.channel.Resent.{Resent}
use Rattle.link_control.specs.Ends.{End, packet_of, after_push, sent_by_push, after_packet, sent_by_packet, after_tick}
use Rattle.link_control.specs.Ends.{sent_by_tick, after_down}
use Rattle.alive_regroup.specs.declared.set.ProcessorSet.{ProcessorSet}
use Rattle.alive_regroup.specs.Watching as watching
use Rattle.alive_regroup.specs.Watching.{Watching, changed_at, told_by_tick}
use Rattle.world_semantics.specs.World.{is_running, terminal_node}
use Rattle.world_semantics.proofs.Lists.{set-other}
use Rattle.message_layout.specs.Messages.{NodeMessage, Reporting, Declaring}
use Rattle.packet_wires.specs.Parcels.{Parcel}
use Rattle.message_layout.specs.Layout.{words_of}
use Rattle.packet_wires.specs.Nodes.{Node, all_nodes, others}
use Rattle.packet_wires.specs.Wires.{Midst, goes_over, any_goes_over, goes_again, at_node, at_end_of, at_end}
use Rattle.packet_wires.specs.Wires.{end_changed, watch_changed, learns, for_each, push_at, sends, sends_all, posted}
use Rattle.packet_wires.specs.Wires.{all_posted, bus_of_answer, heard_of, arrive_at, midst_after_arrival, alive_at}
use Rattle.packet_wires.specs.Wires.{tells_alive}
use Rattle.packet_wires.specs.Wires.{reports, check_at, checks, tick_at, resends, midst_after_tick, down_at, cut_off}
use Rattle.packet_wires.specs.Wires.{declares}
use Rattle.packet_nets.proofs.Tied.{any-nodes}

-- all nodes but one are as they were
abbrev pub OnlyAt : ℕ → Midst → Midst → Type 0
OnlyAt node midst next = (x : ℕ) → x ≢ node → slice_get next.nodes x ≡ slice_get midst.nodes x

follows : (node : ℕ) (one two three : Midst) → OnlyAt node one two → OnlyAt node two three → OnlyAt node one three
follows node one two three first second x n = second x n ∙ first x n

any-only : (name : BusName) (sent : Option Packet) (midst : Midst) (node : ℕ)
    → OnlyAt node midst (any_goes_over name sent midst)
any-only name sent midst node x n = ap (λ (nodes : List Node). slice_get nodes x) (any-nodes name sent midst)

again-only : (sent : Option Resent) (midst : Midst) (node : ℕ) → OnlyAt node midst (goes_again sent midst)
again-only None midst node x n = refl
again-only (Some resent) midst node x n = any-only resent.bus (Some resent.packet) midst node x n

end-only : (x y : ℕ) (node : Node) (e : End) (midst : Midst) → OnlyAt x midst (end_changed x y node e midst)
end-only x y node e midst a n =
    set-other midst.nodes x a (record node { ends = slice_set node.ends y e }) (λ same. n (sym same))

watch-only : (x : ℕ) (change : Watching → Watching) (node : Node) (midst : Midst)
    → OnlyAt x midst (watch_changed x change node midst)
watch-only x change node midst a n =
    set-other midst.nodes x a (record node { watch = change node.watch }) (λ same. n (sym same))

node-only : (x : ℕ) (does : Node → Midst → Midst) (midst : Midst) → ((node : Node) → OnlyAt x midst (does node midst))
    → OnlyAt x midst (at_node does (slice_get midst.nodes x) midst)
node-only x does midst each = by (slice_get midst.nodes x)
  where
    by : (found : Option Node) → OnlyAt x midst (at_node does found midst)
    by None a n = refl
    by (Some node) a n = each node a n

at-end-only : (x y : ℕ) (does : Node → End → Midst → Midst) (midst : Midst)
    → ((node : Node) (e : End) → OnlyAt x midst (does node e midst)) → OnlyAt x midst (at_end x y does midst)
at-end-only x y does midst each =
    node-only x (λ node. at_end_of (does node) (slice_get node.ends y)) midst (λ node. by node (slice_get node.ends y))
  where
    by : (node : Node) (found : Option End) → OnlyAt x midst (at_end_of (does node) found midst)
    by node None a n = refl
    by node (Some e) a n = each node e a n

pub learns-only : (x : ℕ) (change : Watching → Watching) (midst : Midst) → OnlyAt x midst (learns x change midst)
learns-only x change midst = node-only x (watch_changed x change) midst (λ node. watch-only x change node midst)

each-only : (x : ℕ) (does : ℕ → Midst → Midst) → ((y : ℕ) (midst : Midst) → OnlyAt x midst (does y midst))
    → (ys : List ℕ) (midst : Midst) → OnlyAt x midst (for_each does ys midst)
each-only x does each [] midst a n = refl
each-only x does each (y ∷ ys) midst a n = each-only x does each ys (does y midst) a n ∙ each y midst a n

pub sends-only : (x y : ℕ) (message : NodeMessage) (midst : Midst) → OnlyAt x midst (sends x y message midst)
sends-only x y message midst =
    at-end-only x y (push_at x y (words_of message)) midst (λ node e a n.
    any-only bus.X (sent_by_push (words_of message) e) (end_changed x y node (after_push (words_of message) e) midst) x
    a n
    ∙ end-only x y node (after_push (words_of message) e) midst a n)

pub sends-all-only : (x : ℕ) (message : NodeMessage) (ys : List ℕ) (midst : Midst)
    → OnlyAt x midst (sends_all x message ys midst)
sends-all-only x message ys midst =
    each-only x (λ y. sends x y message) (λ y midst. sends-only x y message midst) ys midst

-- parcels that all have one sender
pub posted-only : (x : ℕ) (stopped : List Bool) (parcels : List Parcel) (midst : Midst)
    → ((parcel : Parcel) → IsAmong parcel parcels → parcel.sender ≡ x)
    → OnlyAt x midst (all_posted stopped parcels midst)
posted-only x stopped [] midst from a n = refl
posted-only x stopped (parcel ∷ parcels) midst from a n =
    posted-only x stopped parcels (posted stopped parcel midst) (λ one among. from one (inr among)) a n
    ∙ one (is_running stopped parcel.sender)
  where
    one : (test : Bool) → slice_get (if test then sends parcel.sender parcel.receiver parcel.content midst
        else midst).nodes a ≡ slice_get midst.nodes a
    one false = refl
    one true = sends-only parcel.sender parcel.receiver parcel.content midst a
        (λ same. n (same ∙ from parcel (inl refl)))

pub arrived-only : (name : BusName) (packet : Packet) (midst : Midst)
    → OnlyAt packet.receiver midst (midst_after_arrival name packet midst)
arrived-only name packet midst =
    follows packet.receiver midst (at_end packet.receiver packet.sender (arrive_at name packet) midst)
    (midst_after_arrival name packet midst)
    (at-end-only packet.receiver packet.sender (arrive_at name packet) midst (λ node e a n.
    any-only (bus_of_answer name packet.kind) (sent_by_packet packet e)
    (end_changed packet.receiver packet.sender node (after_packet packet e) midst) packet.receiver a n
    ∙ end-only packet.receiver packet.sender node (after_packet packet e) midst a n))
    (learns-only packet.receiver (heard_of packet.sender packet.kind)
    (at_end packet.receiver packet.sender (arrive_at name packet) midst))

alive-only : (x y : ℕ) (midst : Midst) → OnlyAt x midst (at_end x y alive_at midst)
alive-only x y midst = at-end-only x y alive_at midst (λ node e. by e e.down)
  where
    by : (e : End) (test : Bool) → OnlyAt x midst
        (if test then midst else goes_over bus.Y (packet_of e kind.Alive)
        (goes_over bus.X (packet_of e kind.Alive) midst))
    by e true a n = refl
    by e false a n = refl

tells-only : (processors x : ℕ) (midst : Midst) → OnlyAt x midst (tells_alive processors x midst)
tells-only processors x midst = by (x == terminal_node)
  where
    by : (test : Bool) → OnlyAt x midst (if test then midst else for_each (λ y. at_end x y alive_at)
        (others processors x) midst)
    by true a n = refl
    by false a n =
        each-only x (λ y. at_end x y alive_at) (λ y midst. alive-only x y midst) (others processors x) midst a n

checks-only : (processors x : ℕ) (midst : Midst) → OnlyAt x midst (checks processors x midst)
checks-only processors x midst = node-only x (check_at processors x) midst (λ node. by node (told_by_tick node.watch))
  where
    by : (node : Node) (told : Option ProcessorSet)
        → OnlyAt x midst (reports processors x told (watch_changed x watching.after_tick node midst))
    by node None = watch-only x watching.after_tick node midst
    by node (Some silent) =
        follows x midst (watch_changed x watching.after_tick node midst)
        (sends_all x (Reporting x silent) (others processors x) (watch_changed x watching.after_tick node midst))
        (watch-only x watching.after_tick node midst)
        (sends-all-only x (Reporting x silent) (others processors x) (watch_changed x watching.after_tick node midst))

resends-only : (x : ℕ) (midst : Midst) → OnlyAt x midst (resends x midst)
resends-only x midst =
    each-only x (λ y. at_end x y (tick_at x y)) (λ y midst. at-end-only x y (tick_at x y) midst (λ node e a n.
    again-only (sent_by_tick e) (end_changed x y node (after_tick e) midst) x a n
    ∙ end-only x y node (after_tick e) midst a n)) all_nodes midst

pub ticked-only : (processors x : ℕ) (midst : Midst) → OnlyAt x midst (midst_after_tick processors x midst)
ticked-only processors x midst a n =
    resends-only x (checks processors x (tells_alive processors x midst)) a n
    ∙ checks-only processors x (tells_alive processors x midst) a n ∙ tells-only processors x midst a n

pub cut-only : (x y : ℕ) (midst : Midst) → OnlyAt x midst (cut_off x y midst)
cut-only x y midst =
    follows x midst (at_end x y (down_at x y) midst) (cut_off x y midst)
    (at-end-only x y (down_at x y) midst (λ node e. end-only x y node (after_down e) midst))
    (learns-only x (changed_at y watching.neighbour_after_down) (at_end x y (down_at x y) midst))

pub declares-only : (processors x processor : ℕ) (midst : Midst)
    → OnlyAt x midst (declares processors x processor midst)
declares-only processors x processor midst =
    sends-all-only x (Declaring processor) (others processors x ++ terminal_node ∷ []) midst

-- How far one event brings the numbers at each end, where the ends bear how often nodes were loaded again.
use Rattle.std.proofs.Common.{◌≡◌, ◌≤◌, ℕ, ◌+◌, ◌*◌, ◌==◌, nat_lt, ℤ, Bool, true, false, if◌then◌else◌, List}
use Rattle.std.proofs.Common.{[], ◌∷◌, ◌++◌, length, Option, Some, None, slice_get, slice_set, refl, arith, sym}
use Rattle.std.proofs.Common.{◌||◌, ◌∙◌, ap, map}
use Rattle.std.proofs.lemmas.Bool.{eqb-true, eqb-false}
use Rattle.std.specs.Option.{unwrap_or}
use Rattle.schedule.specs.declared.bus_name.BusName.{BusName}
use Rattle.schedule.specs.declared.bus_name.BusName.TheVariants as bus
use Rattle.packet_words.specs.declared.packet.Packet.{Packet}
use Rattle.packet_words.specs.declared.packet.PacketKind.{PacketKind}
use Rattle.packet_words.specs.declared.packet.PacketKind.TheVariants as kind
use Rattle.packet_words.specs.declared.piece.Piece.{Piece}
use Rattle.schedule.specs.Buses.{other_bus}
use Rattle.packet_words.specs.Pieces.{words_with_piece}
use Rattle.link_control.specs.declared.channel.Resent.{Resent}
use Rattle.link_control.specs.Ends.{End, Receiving, Sending, after_down, end_after_reload, incarnation_after, next_end}
use Rattle.link_control.specs.Ends.{after_kind, after_packet, after_push, after_tick, new_sending, is_ended_by, is_idle}
use Rattle.link_control.specs.Ends.{is_next, is_none, moved_on, numbered_at, packet_of, after_push_of}
use Rattle.link_control.specs.Ends.{sent_by_packet, sent_by_push, sent_by_tick}
use Rattle.alive_regroup.specs.declared.set.ProcessorSet.{ProcessorSet}
use Rattle.alive_regroup.specs.Watching as watching
use Rattle.alive_regroup.specs.Watching.{Watching, changed_at, told_by_tick}
use Rattle.world_semantics.specs.World.{is_running, terminal_node}
use Rattle.world_semantics.proofs.Lists.{map-all, set-all, set-other, set-there}
use Rattle.site_machine.specs.message_layout.specs.Messages.{NodeMessage, Reporting, Declaring}
use Rattle.site_machine.specs.packet_wires.specs.Parcels.{Parcel}
use Rattle.site_machine.specs.message_layout.specs.Layout.{words_of}
use Rattle.site_machine.specs.packet_wires.specs.Nodes.{Node, all_nodes, node_after_reload, others, with_end}
use Rattle.site_machine.specs.packet_wires.specs.Nodes.{with_watch}
use Rattle.site_machine.specs.packet_wires.specs.Wires as wires
use Rattle.site_machine.specs.packet_wires.specs.Wires.{Midst, goes_over, any_goes_over, goes_again, at_node, at_end_of}
use Rattle.site_machine.specs.packet_wires.specs.Wires.{at_end}
use Rattle.site_machine.specs.packet_wires.specs.Wires.{end_changed, watch_changed, learns, for_each, push_at, sends}
use Rattle.site_machine.specs.packet_wires.specs.Wires.{sends_all, posted}
use Rattle.site_machine.specs.packet_wires.specs.Wires.{all_posted, bus_of_answer, heard_of, arrive_at}
use Rattle.site_machine.specs.packet_wires.specs.Wires.{midst_after_arrival}
use Rattle.site_machine.specs.packet_wires.specs.Wires.{alive_at, tells_alive}
use Rattle.site_machine.specs.packet_wires.specs.Wires.{reports, check_at, checks, tick_at, down_at, cut_off, declares}
use Rattle.site_machine.specs.Needs.{BearsReloads, times_loaded}

-- between events: at most so many pieces were numbered at an end, and at most so many kept there; and the end bears how
-- often its nodes were loaded again
abbrev pub RestsAt : ℕ → List ℕ → End → Type 0
RestsAt n reloads e = (e.sending.numbered ≤ n) × (e.receiving.kept ≤ n) × BearsReloads reloads e

-- in the midst of the next event: one more at most, and a piece may be numbered only where none was yet
abbrev pub GoesTo : ℕ → List ℕ → End → Type 0
GoesTo n reloads e = (e.sending.numbered ≤ n + 1) × (e.receiving.kept ≤ n + 1)
    × (e.down ≡ false → is_idle e.sending ≡ true → e.sending.numbered ≤ n) × BearsReloads reloads e

-- what holds of each end of a node
abbrev pub OfNode : (End → Type 0) → Node → Type 0
OfNode P node = (y : ℕ) (e : End) → slice_get node.ends y ≡ Some e → P e

-- what holds of each end of each node
abbrev pub OfEnds : (End → Type 0) → List Node → Type 0
OfEnds P nodes = (x : ℕ) (node : Node) → slice_get nodes x ≡ Some node → OfNode P node

-- One end

busy : (message : List ℤ) (queue : List (List ℤ)) → is_none (queue ++ message ∷ []) ≡ true → ⊥
busy message [] idle = cc
busy message (first ∷ queue) idle = cc

module _ (n : ℕ) (reloads : List ℕ) where
  push-goes : (message : List ℤ) (e : End) → GoesTo n reloads e → GoesTo n reloads (after_push message e)
  push-goes message e goes = by e.down refl
    where
      queued : e.down ≡ false → (test : Bool) → is_idle e.sending ≡ test
          → GoesTo n reloads (record e {
            sending = if test then new_sending (message ∷ []) e.sending.numbered else record e.sending
                { queue = e.sending.queue ++ message ∷ [] };
          })
      queued up true idle = let most = goes.2 up idle in (
        omega (arith, most),
        goes.1,
        λ same none. absurd cc,
        record { sender = goes.3.sender; receiver = goes.3.receiver },
      )
      queued up false idle = (
        goes.0,
        goes.1,
        λ same none. absurd (busy message e.sending.queue none),
        record { sender = goes.3.sender; receiver = goes.3.receiver },
      )

      by : (down : Bool) → e.down ≡ down
          → GoesTo n reloads (if down then e else record e { sending = after_push_of message e.sending })
      by true is = goes
      by false is = queued is (is_idle e.sending) refl

  tick-goes : (e : End) → GoesTo n reloads e → GoesTo n reloads (after_tick e)
  tick-goes e goes = by e.down (is_idle e.sending) e.sending.waited
    where
      bears : {sending : Sending} → BearsReloads reloads (record e { sending = sending })
      bears = record { sender = goes.3.sender; receiver = goes.3.receiver }

      by : (down idle waited : Bool)
          → GoesTo n reloads (if down then e else record e {
            sending = if idle then e.sending else if waited then record e.sending
                { resend_bus = other_bus e.sending.resend_bus } else record e.sending { waited = true };
          })
      by true idle waited = goes
      by false true waited = (goes.0, goes.1, goes.2, bears)
      by false false true = (goes.0, goes.1, goes.2, bears)
      by false false false = (goes.0, goes.1, goes.2, bears)

  down-goes : (e : End) → GoesTo n reloads e → GoesTo n reloads (after_down e)
  down-goes e goes =
      (goes.0, goes.1, λ up idle. absurd cc, record { sender = goes.3.sender; receiver = goes.3.receiver })

  pub rest-goes : (e : End) → RestsAt n reloads e → GoesTo n reloads e
  rest-goes e rests =
      let sent = rests.0 in
      let came = rests.1 in
      (omega (arith, sent), omega (arith, came), λ up idle. sent, rests.2)

  pub goes-rest : (e : End) → GoesTo n reloads e → RestsAt (n + 1) reloads e
  goes-rest e goes = (goes.0, goes.1, goes.3)

  -- what goes on at the sender's end
  abbrev Moves : Sending → Type 0
  Moves s = (s.numbered ≤ n + 1) × (is_idle s ≡ true → s.numbered ≤ n)

  begun-moves : (queue : List (List ℤ)) (numbered : ℕ) → numbered ≤ n → Moves (new_sending queue numbered)
  begun-moves [] numbered low = (omega (arith, low), λ idle. low)
  begun-moves (message ∷ queue) numbered low = (omega (arith, low), λ idle. absurd cc)

  on-moves : (s : Sending) (queue : List (List ℤ)) → s.numbered ≤ n → Moves (moved_on queue s)
  on-moves s [] low = (omega (arith, low), λ idle. low)
  on-moves s (message ∷ queue) low = further (nat_lt (10 * (s.place + 1)) (length message))
    where
      further : (more : Bool) → Moves (if more then numbered_at (s.place + 1) (message ∷ queue) s.numbered else
          new_sending queue s.numbered)
      further true = (omega (arith, low), λ idle. absurd cc)
      further false = begun-moves queue s.numbered low

  packet-goes : (packet : Packet) (e : End) → RestsAt n reloads e → GoesTo n reloads (after_packet packet e)
  packet-goes packet e rests = by e.down packet.kind
    where
      bears : {sending : Sending} {receiving : Receiving}
          → BearsReloads reloads (record e { sending = sending; receiving = receiving })
      bears = record { sender = rests.2.sender; receiver = rests.2.receiver }

      keeps : (number : ℕ) (piece : Piece) (test : Bool)
          → GoesTo n reloads (record e {
            receiving = if test then record {
              kept = e.receiving.kept + 1;
              part = words_with_piece piece e.receiving.part;
            } else
                e.receiving;
          })
      keeps number piece true =
          let all = rest-goes e rests in
          let came = rests.1 in
          (all.0, omega (arith, came), all.2, bears)
      keeps number piece false = let all = rest-goes e rests in (all.0, all.1, all.2, bears)

      ends : (test : Bool)
          → GoesTo n reloads (record e { sending = if test then moved_on e.sending.queue e.sending else e.sending })
      ends true =
          let moves = on-moves e.sending e.sending.queue rests.0 in
          let came = rests.1 in
          (moves.0, omega (arith, came), λ up. moves.1, bears)
      ends false = let all = rest-goes e rests in (all.0, all.1, all.2, bears)

      by : (down : Bool) (k : PacketKind) → GoesTo n reloads (if down then e else after_kind k e)
      by true k = rest-goes e rests
      by false kind.Alive = rest-goes e rests
      by false (kind.Piece number piece) = keeps number piece (is_next number e.receiving)
      by false (kind.Acknowledgement number) = ends (is_ended_by number e.sending)

-- Ends of nodes

module _ (n : ℕ) (reloads : List ℕ) where
  abbrev pub AllGo : List Node → Type 0
  AllGo nodes = OfEnds (GoesTo n reloads) nodes

  abbrev pub Keeps : (Midst → Midst) → Type 0
  Keeps part = (midst : Midst) → AllGo midst.nodes → AllGo (part midst).nodes

  all-set : (x y : ℕ) (node : Node) (e : End) (nodes : List Node) → slice_get nodes x ≡ Some node → GoesTo n reloads e
      → AllGo nodes → AllGo (with_end x y node e nodes)
  all-set x y node e nodes there goes all =
      set-all (λ k one. OfNode (GoesTo n reloads) one) nodes x (record node { ends = slice_set node.ends y e }) all
      (set-all (λ k one. GoesTo n reloads one) node.ends y e (all x node there) goes)

  all-watch : (x : ℕ) (node : Node) (watch : Watching) (nodes : List Node) → slice_get nodes x ≡ Some node
      → AllGo nodes → AllGo (with_watch x node watch nodes)
  all-watch x node watch nodes there all =
      set-all (λ k one. OfNode (GoesTo n reloads) one) nodes x (record node { watch = watch }) all (all x node there)

  any-same : (name : BusName) (told : Option Packet) (midst : Midst) → AllGo midst.nodes
      → AllGo (any_goes_over name told midst).nodes
  any-same name None midst all = all
  any-same name (Some packet) midst all = all

  again-same : (told : Option Resent) (midst : Midst) → AllGo midst.nodes → AllGo (goes_again told midst).nodes
  again-same None midst all = all
  again-same (Some resent) midst all = all

  module _ (x y : ℕ) (does : Node → End → Midst → Midst) (midst : Midst) (all : AllGo midst.nodes)
      (keeps : (node : Node) (e : End) → slice_get midst.nodes x ≡ Some node → slice_get node.ends y ≡ Some e
      → AllGo (does node e midst).nodes) where
    all-end-of : (node : Node) → slice_get midst.nodes x ≡ Some node → (found : Option End)
        → slice_get node.ends y ≡ found → AllGo (at_end_of (does node) found midst).nodes
    all-end-of node there None is = all
    all-end-of node there (Some e) is = keeps node e there is

    all-node : (found : Option Node) → slice_get midst.nodes x ≡ found
        → AllGo (at_node (λ node. at_end_of (does node) (slice_get node.ends y)) found midst).nodes
    all-node None is = all
    all-node (Some node) is = all-end-of node is (slice_get node.ends y) refl

    all-end : AllGo (at_end x y does midst).nodes
    all-end = all-node (slice_get midst.nodes x) refl

  pub learns-go : (x : ℕ) (change : Watching → Watching) → Keeps (learns x change)
  learns-go x change midst all = by (slice_get midst.nodes x) refl
    where
      by : (found : Option Node) → slice_get midst.nodes x ≡ found
          → AllGo (at_node (watch_changed x change) found midst).nodes
      by None is = all
      by (Some node) is = all-watch x node (change node.watch) midst.nodes is all

  each-goes : (does : ℕ → Midst → Midst) → ((y : ℕ) → Keeps (does y)) → (ys : List ℕ) → Keeps (for_each does ys)
  each-goes does keeps [] midst all = all
  each-goes does keeps (y ∷ ys) midst all = each-goes does keeps ys (does y midst) (keeps y midst all)

  -- What nodes do

  pushing-goes : (x y : ℕ) (words : List ℤ) → Keeps (at_end x y (push_at x y words))
  pushing-goes x y words midst all =
      all-end x y (push_at x y words) midst all
      (λ node e there is. any-same bus.X (sent_by_push words e) (end_changed x y node (after_push words e) midst)
      (all-set x y node (after_push words e) midst.nodes there
      (push-goes n reloads words e (all x node there y e is)) all))

  ticking-goes : (x y : ℕ) → Keeps (at_end x y (tick_at x y))
  ticking-goes x y midst all =
      all-end x y (tick_at x y) midst all (λ node e there is.
      again-same (sent_by_tick e) (end_changed x y node (after_tick e) midst)
      (all-set x y node (after_tick e) midst.nodes there (tick-goes n reloads e (all x node there y e is)) all))

  alive-goes : (x y : ℕ) → Keeps (at_end x y alive_at)
  alive-goes x y midst all = all-end x y alive_at midst all (λ node e there is. by e e.down)
    where
      by : (e : End) (down : Bool)
          → AllGo (if down then midst else goes_over bus.Y (packet_of e kind.Alive)
          (goes_over bus.X (packet_of e kind.Alive) midst)).nodes
      by e true = all
      by e false = all

  downing-goes : (x y : ℕ) → Keeps (at_end x y (down_at x y))
  downing-goes x y midst all =
      all-end x y (down_at x y) midst all (λ node e there is.
      all-set x y node (after_down e) midst.nodes there (down-goes n reloads e (all x node there y e is)) all)

  -- a packet comes first in its event, while all ends rest
  pub arrived-goes : (name : BusName) (packet : Packet) (midst : Midst) → OfEnds (RestsAt n reloads) midst.nodes
      → AllGo (midst_after_arrival name packet midst).nodes
  arrived-goes name packet midst rest =
      learns-go packet.receiver (heard_of packet.sender packet.kind)
      (at_end packet.receiver packet.sender (arrive_at name packet) midst)
      (all-end packet.receiver packet.sender (arrive_at name packet) midst all
      (λ node e there is. any-same (bus_of_answer name packet.kind) (sent_by_packet packet e)
      (end_changed packet.receiver packet.sender node (after_packet packet e) midst)
      (all-set packet.receiver packet.sender node (after_packet packet e) midst.nodes there
      (packet-goes n reloads packet e (rest packet.receiver node there packet.sender e is)) all)))
    where
      all : AllGo midst.nodes
      all x node there y e is = rest-goes n reloads e (rest x node there y e is)

  sends-all-goes : (x : ℕ) (message : NodeMessage) (ys : List ℕ) → Keeps (sends_all x message ys)
  sends-all-goes x message = each-goes (λ y. sends x y message) (λ y. pushing-goes x y (words_of message))

  posted-goes : (stopped : List Bool) (parcel : Parcel) → Keeps (posted stopped parcel)
  posted-goes stopped parcel midst all = by (is_running stopped parcel.sender)
    where
      by : (runs : Bool) → AllGo (if runs then sends parcel.sender parcel.receiver parcel.content midst else
          midst).nodes
      by true = pushing-goes parcel.sender parcel.receiver (words_of parcel.content) midst all
      by false = all

  pub all-posted-go : (stopped : List Bool) (parcels : List Parcel) → Keeps (all_posted stopped parcels)
  all-posted-go stopped [] midst all = all
  all-posted-go stopped (parcel ∷ parcels) midst all =
      all-posted-go stopped parcels (posted stopped parcel midst) (posted-goes stopped parcel midst all)

  tells-alive-goes : (processors x : ℕ) → Keeps (tells_alive processors x)
  tells-alive-goes processors x midst all = by (x == terminal_node)
    where
      by : (test : Bool) → AllGo (if test then midst else for_each (λ y. at_end x y alive_at) (others processors x)
          midst).nodes
      by true = all
      by false = each-goes (λ y. at_end x y alive_at) (λ y. alive-goes x y) (others processors x) midst all

  reports-go : (processors x : ℕ) (told : Option ProcessorSet) → Keeps (reports processors x told)
  reports-go processors x None midst all = all
  reports-go processors x (Some silent) midst all =
      sends-all-goes x (Reporting x silent) (others processors x) midst all

  checks-go : (processors x : ℕ) → Keeps (checks processors x)
  checks-go processors x midst all = by (slice_get midst.nodes x) refl
    where
      by : (found : Option Node) → slice_get midst.nodes x ≡ found
          → AllGo (at_node (check_at processors x) found midst).nodes
      by None is = all
      by (Some node) is =
          reports-go processors x (told_by_tick node.watch) (watch_changed x watching.after_tick node midst)
          (all-watch x node (watching.after_tick node.watch) midst.nodes is all)

  pub ticked-goes : (processors x : ℕ) → Keeps (wires.midst_after_tick processors x)
  ticked-goes processors x midst all =
      each-goes (λ y. at_end x y (tick_at x y)) (λ y. ticking-goes x y) all_nodes
      (checks processors x (tells_alive processors x midst))
      (checks-go processors x (tells_alive processors x midst) (tells-alive-goes processors x midst all))

  pub cut-off-goes : (x y : ℕ) → Keeps (cut_off x y)
  cut-off-goes x y midst all =
      learns-go x (changed_at y watching.neighbour_after_down) (at_end x y (down_at x y) midst)
      (downing-goes x y midst all)

  pub declares-go : (processors x processor : ℕ) → Keeps (declares processors x processor)
  declares-go processors x processor =
      sends-all-goes x (Declaring processor) (others processors x ++ terminal_node ∷ [])

-- Reloads

kept-times : (counts : List ℕ) (x times node : ℕ) → (node == x) ≡ false
    → times_loaded (slice_set counts x (times + 1)) node ≡ times_loaded counts node
kept-times counts x times node e =
    ap (λ found. unwrap_or found 0) (set-other counts x node (times + 1) (λ same. eqb-false node x e (sym same)))

fresh-bears : (counts : List ℕ) (x times node incarnation : ℕ) → slice_get counts x ≡ Some times
    → incarnation ≡ times_loaded counts node
    → incarnation_after x node incarnation ≡ times_loaded (slice_set counts x (times + 1)) node
fresh-bears counts x times node incarnation there is = by (node == x) refl
  where
    by : (test : Bool) → (node == x) ≡ test
        → (if test then incarnation + 1 else incarnation) ≡ times_loaded (slice_set counts x (times + 1)) node
    by true e =
        let here : node ≡ x = eqb-true node x e in
        let old : times_loaded counts node ≡ times =
        ap (λ one. times_loaded counts one) here ∙ ap (λ found. unwrap_or found 0) there in
        let new : times_loaded (slice_set counts x (times + 1)) node ≡ times + 1 =
        ap (λ one. times_loaded (slice_set counts x (times + 1)) one) here
        ∙ ap (λ found. unwrap_or found 0) (set-there counts x times (times + 1) there) in
        omega (arith, is, old, new)
    by false e = is ∙ sym (kept-times counts x times node e)

-- after the node x was loaded again, an end of it or with it has numbered nothing, and each bears the new counts
loaded-rests : (n : ℕ) (counts : List ℕ) (x times : ℕ) → slice_get counts x ≡ Some times → (e : End)
    → RestsAt n counts e → RestsAt n (slice_set counts x (times + 1)) (end_after_reload x e)
loaded-rests n counts x times there e rests = by (e.here == x) (e.there == x) refl refl
  where
    after : List ℕ
    after = slice_set counts x (times + 1)

    bears : BearsReloads after (next_end x e)
    bears = record {
      sender = fresh-bears counts x times e.here e.incarnation.sender there rests.2.sender;
      receiver = fresh-bears counts x times e.there e.incarnation.receiver there rests.2.receiver;
    }

    by : (first second : Bool) → (e.here == x) ≡ first → (e.there == x) ≡ second
        → RestsAt n after (if first || second then next_end x e else e)
    by true second here also = (omega arith, omega arith, bears)
    by false true here also = (omega arith, omega arith, bears)
    by false false here also = (
      rests.0,
      rests.1,
      record {
        sender = rests.2.sender ∙ sym (kept-times counts x times e.here here);
        receiver = rests.2.receiver ∙ sym (kept-times counts x times e.there also);
      },
    )

pub loaded-all-rest : (n : ℕ) (counts : List ℕ) (processors x times : ℕ) → slice_get counts x ≡ Some times
    → (nodes : List Node) → OfEnds (RestsAt n counts) nodes
    → OfEnds (RestsAt n (slice_set counts x (times + 1))) (map (node_after_reload processors x) nodes)
loaded-all-rest n counts processors x times there nodes rest =
    map-all (λ k node. OfNode (RestsAt n (slice_set counts x (times + 1))) node) (node_after_reload processors x) nodes
    (λ k node is. map-all (λ y e. RestsAt n (slice_set counts x (times + 1)) e) (end_after_reload x) node.ends
    (λ y e at. loaded-rests n counts x times there e (rest k node is y e at)))

-- All that nodes send and take in keeps what the net owes.
use Rattle.std.proofs.Common.{◌≡◌, ◌≤◌, ◌<◌, inl, inr, ℕ, ℤ, Bool, true, false, not, if◌then◌else◌, List, [], ◌∷◌, ◌++◌}
use Rattle.std.proofs.Common.{length, Option, Some, None, slice_get, refl, ap, sym, subst, ◌∙◌, arith, ◌==◌}
use Rattle.std.proofs.lemmas.Bool.{eqb-true}
use Rattle.std.specs.Option.{option_to_list, option_and_then, option_map}
use Rattle.std.proofs.lemmas.List.{append-nil, append_assoc}
use Rattle.gd_words.specs.Members.{IsAmong}
use Rattle.gd_words.proofs.Among.{among-left, among-right}
use Rattle.tal_tree.specs.declared.site.Site.{Site}
use Rattle.schedule.specs.declared.bus_name.BusName.{BusName}
use Rattle.schedule.specs.declared.bus_name.BusName.TheVariants as bus
use Rattle.packet_words.specs.declared.packet.Packet.{Packet}
use Rattle.packet_words.specs.declared.packet.Incarnation.{Incarnation}
use Rattle.packet_words.specs.declared.packet.PacketKind.{PacketKind}
use Rattle.packet_words.specs.declared.packet.PacketKind.TheVariants as kind
use Rattle.link_control.specs.declared.channel.Resent.{Resent}
use Rattle.link_control.specs.Ends.{End, packet_of, after_push, sent_by_push, after_push_of, after_packet, after_kind}
use Rattle.link_control.specs.Ends.{sent_by_packet, handed_by_packet, handed_by_kind, message_of_piece, after_tick}
use Rattle.link_control.specs.Ends.{after_tick_of, sent_by_tick, after_down, is_current}
use Rattle.channel_laws.specs.Net.{Net, IsWhole, Runs, put, packet_in, pushed_net, arrived_net, ticked_net, alive_net}
use Rattle.channel_laws.specs.Net.{marked_net, ways_by, pushes, ticks, lives, IsCurrent}
use Rattle.channel_laws.specs.Net as net
use Rattle.channel_laws.specs.Way.{Way, way_after_tick, way_after_piece, way_after_acknowledgement}
use Rattle.channel_laws.proofs.Nets.{put-same, put-all, put-own, whole-goes, when-up}
use Rattle.alive_regroup.specs.Watching as watching
use Rattle.alive_regroup.specs.Watching.{Watching, changed_at}
use Rattle.world_semantics.specs.Messages.{Asking, Replying, Checkpointing, Taking}
use Rattle.world_semantics.specs.World.{is_running}
use Rattle.world_semantics.proofs.Roles.{both-true}
use Rattle.packet_nets.specs.Owing.{without_those_between}
use Rattle.packet_wires.specs.Parcels.{Parcel}
use Rattle.message_layout.specs.Messages.{NodeMessage, Carrying, Changing, Reporting, Declaring}
use Rattle.message_layout.specs.Layout.{Fits, words_of}
use Rattle.packet_wires.specs.Nodes.{Node, end_at}
use Rattle.packet_wires.specs.Wires.{Wires, Midst, Outgoing, with_sent, goes_over, any_goes_over, goes_again, at_node}
use Rattle.packet_wires.specs.Wires.{at_end_of, at_end, end_changed, learns, for_each, push_at, sends, posted}
use Rattle.packet_wires.specs.Wires.{all_posted, bus_of_answer, heard_of, arrive_at, midst_after_arrival, alive_at}
use Rattle.packet_wires.specs.Wires.{tick_at}
use Rattle.packet_wires.specs.Wires.{down_at, cut_off}
use Rattle.packet_wires.specs.Play.{message_at_end, is_current_at}
use Rattle.packet_nets.specs.Tied.{IsTied, IsWatch, AreWatches}
use Rattle.packet_nets.specs.Owing.{IsContent, IsTrueOf, IsOpen, Owes, Ties, TiesAtRest, on_both}
use Rattle.packet_nets.proofs.Watches.{changed-watch, ends-watches, watched-watches}
use Rattle.packet_nets.proofs.Between.{by-own, parcels_by}
use Rattle.packet_nets.proofs.Owing.{calm-owes, more-owes, push-owes, closed-owes, without-owes}
use Rattle.packet_nets.proofs.Arriving.{Arrives, arrives, hands_none, ways-pushes, ways-out}
use Rattle.packet_nets.proofs.Tied as tied
use Rattle.packet_nets.proofs.Nodes.{end-was}
use Rattle.packet_nets.proofs.Tied.{end-is, end-tied, watched-tied, down-tied, fewer-tied, rest-tied}
use Rattle.packet_nets.proofs.Tied.{out-any}

-- No message is without words
pub filled : (told : NodeMessage) → 0 < length (words_of told)
filled (Carrying (Asking request)) = omega arith
filled (Carrying (Replying reply)) = omega arith
filled (Carrying (Checkpointing message)) = omega arith
filled (Carrying (Taking taken)) = omega arith
filled (Changing change) = omega arith
filled (Reporting node set) = omega arith
filled (Declaring processor) = omega arith

-- What is done at one end

module _ {stopped : List Bool} {on : List Packet} {midst : Midst} {n : Net} (t : IsTied stopped on midst n) (x y : ℕ)
    (node : Node) (e : End)
    (at : slice_get midst.nodes x ≡ Some node) (has : slice_get node.ends y ≡ Some e)
    (runs : is_running stopped x ≡ true) where
  -- the net has the same end
  pub is-net : n.ends x y ≡ e
  is-net = end-is t x y node e e at has runs

  -- the end stays the same, and sends nothing
  pub still-tied : (name : BusName) (sent : Option Packet) (same : End) → same ≡ e → sent ≡ None
      → IsTied stopped on (any_goes_over name sent (end_changed x y node same midst)) n
  still-tied name sent same is none =
      end-tied t x y node e same at has runs name sent n t.whole refl refl
      (sym (put-own x y n.ends) ∙ ap (λ d. put x y d n.ends) (is-net ∙ sym is))
      (sym (append-nil n.flight) ∙ ap (λ o. n.flight ++ option_to_list o) (sym none)) (ap (λ (d : End). d.down) is)

  -- an end that isn't down, of a node that runs
  pub up : e.down ≡ false → Runs n x y
  up d = (t.stood x ∙ ap not runs, ap (λ (d : End). d.down) is-net ∙ d)

  pub push-tied : (words : List ℤ) → 0 < length words → e.down ≡ false
      → IsTied stopped on (any_goes_over bus.X (sent_by_push words e)
      (end_changed x y node (after_push words e) midst)) (pushed_net x y words n)
  push-tied words some d =
      end-tied t x y node e (after_push words e) at has runs bus.X (sent_by_push words e) (pushed_net x y words n)
      (whole-goes (pushes x y words some (up d)) t.whole) refl refl
      (ap (λ d. put x y (after_push words d) n.ends) is-net)
      (ap (λ d. n.flight ++ option_to_list (sent_by_push words d)) is-net)
      (ap (λ (d : End). d.down) (when-up e (record e { sending = after_push_of words e.sending }) d))

  pub tick-tied : (sent : Option Resent) → sent_by_tick e ≡ sent → e.down ≡ false
      → IsTied stopped on (goes_again sent (end_changed x y node (after_tick e) midst)) (ticked_net x y n)
  tick-tied sent is d = by sent is
    where
      with_packet : (name : BusName) (packet : Option Packet) → option_map packet_in (sent_by_tick e) ≡ packet
          → IsTied stopped on (any_goes_over name packet (end_changed x y node (after_tick e) midst)) (ticked_net x y n)
      with_packet name packet is =
          end-tied t x y node e (after_tick e) at has runs name packet (ticked_net x y n)
          (whole-goes (ticks x y (up d)) t.whole) refl refl
          (ap (λ d. put x y (after_tick d) n.ends) is-net)
          (ap (λ d. n.flight ++ option_to_list (option_map packet_in (sent_by_tick d))) is-net
          ∙ ap (λ o. n.flight ++ option_to_list o) is)
          (ap (λ (d : End). d.down) (when-up e (record e { sending = after_tick_of e.sending }) d))

      by : (sent : Option Resent) → sent_by_tick e ≡ sent
          → IsTied stopped on (goes_again sent (end_changed x y node (after_tick e) midst)) (ticked_net x y n)
      by None is = with_packet bus.X None (ap (option_map packet_in) is)
      by (Some resent) is = with_packet resent.bus (Some resent.packet) (ap (option_map packet_in) is)

  pub live-tied : e.down ≡ false → IsTied stopped on
      (goes_over bus.Y (packet_of e kind.Alive) (goes_over bus.X (packet_of e kind.Alive) midst)) (alive_net x y n)
  live-tied d = record {
    shape = t.shape;
    names = t.names;
    whole = whole-goes (lives x y (up d)) t.whole;
    stood = t.stood;
    ends = t.ends;
    flight = λ p among. among-left p n.flight (packet_of (n.ends x y) kind.Alive ∷ []) (t.flight p among);
    out = from;
    down = t.down;
  }
    where
      new : packet_of e kind.Alive ≡ packet_of (n.ends x y) kind.Alive
      new = ap (λ d. packet_of d kind.Alive) (sym is-net)

      now : (one : Outgoing) → IsAmong one.packet (packet_of e kind.Alive ∷ [])
          → IsAmong one.packet (n.flight ++ packet_of (n.ends x y) kind.Alive ∷ [])
      now one (inl same) = among-right one.packet n.flight (packet_of (n.ends x y) kind.Alive ∷ []) (inl (same ∙ new))
      now one (inr none) = absurd none

      from : (one : Outgoing) → IsAmong one (goes_over bus.Y (packet_of e kind.Alive)
          (goes_over bus.X (packet_of e kind.Alive) midst)).out
          → IsAmong one.packet (n.flight ++ packet_of (n.ends x y) kind.Alive ∷ [])
      from one among = elim (out-any bus.Y (Some (packet_of e kind.Alive)) one
          (goes_over bus.X (packet_of e kind.Alive) midst) among) [
            | inl before ↦ elim (out-any bus.X (Some (packet_of e kind.Alive)) one midst before) [
              | inl first ↦ among-left one.packet n.flight (packet_of (n.ends x y) kind.Alive ∷ []) (t.out one first)
              | inr sent ↦ now one sent
            ]
            | inr sent ↦ now one sent
          ]

  -- a packet that bears the incarnations which the end knows bears the net's
  pub current-now : (p : Packet) → p.receiver ≡ x → p.sender ≡ y → is_current p e ≡ true → IsCurrent n.reloads p
  current-now p r s is =
      let named = t.names x y e (end-was midst.nodes x y node e e at has) in
      let both = both-true (p.incarnation.sender == e.incarnation.receiver)
      (p.incarnation.receiver == e.incarnation.sender) is in
      let sender : p.incarnation.sender ≡ n.reloads p.sender =
      eqb-true p.incarnation.sender e.incarnation.receiver both.0
      ∙ ap (λ (i : Incarnation). i.receiver) named.incarnation ∙ ap n.reloads (sym s) in
      let receiver : p.incarnation.receiver ≡ n.reloads p.receiver =
      eqb-true p.incarnation.receiver e.incarnation.sender both.1
      ∙ ap (λ (i : Incarnation). i.sender) named.incarnation ∙ ap n.reloads (sym r) in
      λ i. record { sender = sender i; receiver = receiver i }

  pub arrive-tied : (name : BusName) (p : Packet) → p.receiver ≡ x → p.sender ≡ y → IsAmong p n.flight
      → is_current p e ≡ true → e.down ≡ false
      → IsTied stopped on (any_goes_over name (sent_by_packet p e) (end_changed x y node (after_packet p e) midst))
      (arrived_net x y p n)
  arrive-tied name p r s among current d =
      end-tied t x y node e (after_packet p e) at has runs name (sent_by_packet p e) (arrived_net x y p n)
      (subst (λ a. IsWhole (arrived_net a y p n)) r
      (subst (λ b. IsWhole (arrived_net p.receiver b p n)) s
      (whole-goes (net.arrives p among (current-now p r s current)
      (subst (λ a. Runs n a p.sender) (sym r) (subst (λ b. Runs n x b) (sym s) (up d)))) t.whole))) refl refl
      (ap (λ d. put x y (after_packet p d) n.ends) is-net)
      (ap (λ d. n.flight ++ option_to_list (sent_by_packet p d)) is-net)
      (ap (λ (d : End). d.down) (when-up e (after_kind p.kind e) d) ∙ kind_down p.kind)
    where
      kind_down : (k : PacketKind) → (after_kind k e).down ≡ e.down
      kind_down kind.Alive = refl
      kind_down (kind.Piece number piece) = refl
      kind_down (kind.Acknowledgement number) = refl

-- What is tied and owed, together

-- nodes that there may be have their ends
pub absent : {stopped : List Bool} {on : List Packet} {midst : Midst} {n : Net} (t : IsTied stopped on midst n)
    (x y : ℕ) → end_at midst.nodes x y ≡ None → x ≤ 16 → y ≤ 16 → ⊥
absent t x y e low few = let one = t.shape x y low few in let bad : None ≡ Some one.0 = sym e ∙ one.1 in absurd cc

pub no-node : (midst : Midst) (x y : ℕ) → slice_get midst.nodes x ≡ None → end_at midst.nodes x y ≡ None
no-node midst x y e = ap (option_and_then (λ (node : Node). slice_get node.ends y)) e

pub no-end : (midst : Midst) (x y : ℕ) (node : Node) → slice_get midst.nodes x ≡ Some node
    → slice_get node.ends y ≡ None → end_at midst.nodes x y ≡ None
no-end midst x y node at e = ap (option_and_then (λ (node : Node). slice_get node.ends y)) at ∙ e

pub is-end : (midst : Midst) (x y : ℕ) (node : Node) (e : End) → slice_get midst.nodes x ≡ Some node
    → slice_get node.ends y ≡ Some e → end_at midst.nodes x y ≡ Some e
is-end midst x y node e at has = ap (option_and_then (λ (node : Node). slice_get node.ends y)) at ∙ has

push-down : (words : List ℤ) (e : End) → (after_push words e).down ≡ e.down
push-down words e = by e.down
  where
    by : (test : Bool) → (if test then e else record e { sending = after_push_of words e.sending }).down ≡ e.down
    by true = refl
    by false = refl

tick-down : (e : End) → (after_tick e).down ≡ e.down
tick-down e = by e.down
  where
    by : (test : Bool) → (if test then e else record e { sending = after_tick_of e.sending }).down ≡ e.down
    by true = refl
    by false = refl

down-put : (x y : ℕ) (e : End) (ends : ℕ → ℕ → End) → e.down ≡ (ends x y).down → (a b : ℕ)
    → (put x y e ends a b).down ≡ (ends a b).down
down-put x y e ends is a b = put-all (λ a b (d : End). d.down ≡ (ends a b).down) x y e ends is (λ a b. refl) a b

module _ {site : Site} {stopped : List Bool} {reloads : List ℕ} {on : List Packet} {owed sent : List Parcel} where
  -- one message goes
  pub sends-ties : (midst : Midst) (x y : ℕ) (told : NodeMessage) → is_running stopped x ≡ true → Fits site told
      → IsTrueOf stopped reloads sent x y told
      → Ties site stopped reloads on midst owed sent → Ties site stopped reloads on (sends x y told midst)
      (owed ++ parcels_by x y told) sent
  sends-ties midst x y told runs fits right T = by_node (slice_get midst.nodes x) refl
    where
      closed : (IsOpen stopped T.net x y → ⊥) → Ties site stopped reloads on midst (owed ++ parcels_by x y told) sent
      closed not_open = record {
        net = T.net;
        tied = T.tied;
        owes = closed-owes T.owes x y told not_open;
        watches = T.watches;
        places = T.places;
      }

      end-there : (node : Node) (e : End) → slice_get midst.nodes x ≡ Some node → slice_get node.ends y ≡ Some e
          → (d : Bool) → e.down ≡ d
          → Ties site stopped reloads on (push_at x y (words_of told) node e midst) (owed ++ parcels_by x y told) sent
      end-there node e at has true d = record {
        net = T.net;
        tied = still-tied T.tied x y node e at has runs bus.X (sent_by_push (words_of told) e)
            (after_push (words_of told) e) (rw d refl) (rw d refl);
        owes = closed-owes T.owes x y told (λ o. let up : e.down
            ≡ false = ap (λ (d : End). d.down) (sym (is-net T.tied x y node e at has runs)) ∙ o.there in absurd cc);
        watches = subst (AreWatches site.processors)
            (sym (tied.any-nodes bus.X (sent_by_push (words_of told) e)
            (end_changed x y node (after_push (words_of told) e) midst)))
            (ends-watches midst.nodes x y node (after_push (words_of told) e) at T.watches);
        places = T.places;
      }
      end-there node e at has false d = record {
        net = pushed_net x y (words_of told) T.net;
        tied = push-tied T.tied x y node e at has runs (words_of told) (filled told) d;
        owes = push-owes T.owes x y told fits right (pushed_net x y (words_of told) T.net) refl
            (down-put x y (after_push (words_of told) (T.net.ends x y)) T.net.ends
            (push-down (words_of told) (T.net.ends x y)));
        watches = subst (AreWatches site.processors)
            (sym (tied.any-nodes bus.X (sent_by_push (words_of told) e)
            (end_changed x y node (after_push (words_of told) e) midst)))
            (ends-watches midst.nodes x y node (after_push (words_of told) e) at T.watches);
        places = T.places;
      }

      by_end : (node : Node) → slice_get midst.nodes x ≡ Some node → (one : Option End) → slice_get node.ends y ≡ one
          → Ties site stopped reloads on (at_end_of (push_at x y (words_of told) node) one midst)
          (owed ++ parcels_by x y told)
          sent
      by_end node at None e = closed (λ o. absent T.tied x y (no-end midst x y node at e) o.sender o.receiver)
      by_end node at (Some e) has = end-there node e at has e.down refl

      by_node : (one : Option Node) → slice_get midst.nodes x ≡ one
          → Ties site stopped reloads on (at_node (λ node.
          at_end_of (push_at x y (words_of told) node) (slice_get node.ends y)) one midst)
          (owed ++ parcels_by x y told) sent
      by_node None e = closed (λ o. absent T.tied x y (no-node midst x y e) o.sender o.receiver)
      by_node (Some node) at = by_end node at (slice_get node.ends y) refl

  -- a tick of one end
  pub tick-ties : (midst : Midst) (x y : ℕ) → is_running stopped x ≡ true → Ties site stopped reloads on midst owed sent
      → Ties site stopped reloads on (at_end x y (tick_at x y) midst) owed sent
  tick-ties midst x y runs T = by_node (slice_get midst.nodes x) refl
    where
      nodes : (o : Option Resent) (w : Midst) → (goes_again o w).nodes ≡ w.nodes
      nodes None w = refl
      nodes (Some resent) w = tied.any-nodes resent.bus (Some resent.packet) w

      end-there : (node : Node) (e : End) → slice_get midst.nodes x ≡ Some node → slice_get node.ends y ≡ Some e
          → (d : Bool) → e.down ≡ d
          → Ties site stopped reloads on (tick_at x y node e midst) owed sent
      end-there node e at has true d = record {
        net = T.net;
        tied = subst (λ (o : Option Resent). IsTied stopped on
            (goes_again o (end_changed x y node (after_tick e) midst)) T.net) (sym none)
            (still-tied T.tied x y node e at has runs bus.X None (after_tick e) (rw d refl) refl);
        owes = T.owes;
        watches = subst (AreWatches site.processors)
            (sym (nodes (sent_by_tick e) (end_changed x y node (after_tick e) midst)))
            (ends-watches midst.nodes x y node (after_tick e) at T.watches);
        places = T.places;
      }
        where
          none : sent_by_tick e ≡ None
          none = rw d refl
      end-there node e at has false d = record {
        net = ticked_net x y T.net;
        tied = tick-tied T.tied x y node e at has runs (sent_by_tick e) refl d;
        owes = calm-owes T.owes (ticked_net x y T.net)
            (λ a b. put-all (λ a b (w : Way). w.pushes ≡ (T.net.ways a b).pushes) x y (way_after_tick (T.net.ways x y))
            T.net.ways refl (λ a b. refl) a b)
            (λ a b. put-all (λ a b (w : Way). w.out ≡ (T.net.ways a b).out) x y
            (way_after_tick (T.net.ways x y)) T.net.ways
            refl (λ a b. refl) a b)
            (down-put x y (after_tick (T.net.ends x y)) T.net.ends (tick-down (T.net.ends x y)));
        watches = subst (AreWatches site.processors)
            (sym (nodes (sent_by_tick e) (end_changed x y node (after_tick e) midst)))
            (ends-watches midst.nodes x y node (after_tick e) at T.watches);
        places = T.places;
      }

      by_end : (node : Node) → slice_get midst.nodes x ≡ Some node → (one : Option End) → slice_get node.ends y ≡ one
          → Ties site stopped reloads on (at_end_of (tick_at x y node) one midst) owed sent
      by_end node at None e = T
      by_end node at (Some e) has = end-there node e at has e.down refl

      by_node : (one : Option Node) → slice_get midst.nodes x ≡ one
          → Ties site stopped reloads on (at_node (λ node. at_end_of (tick_at x y node) (slice_get node.ends y)) one
          midst)
          owed sent
      by_node None e = T
      by_node (Some node) at = by_end node at (slice_get node.ends y) refl

  -- I'm-alive packets go out at one end
  pub live-ties : (midst : Midst) (x y : ℕ) → is_running stopped x ≡ true → Ties site stopped reloads on midst owed sent
      → Ties site stopped reloads on (at_end x y alive_at midst) owed sent
  live-ties midst x y runs T = by_node (slice_get midst.nodes x) refl
    where
      by_down : (node : Node) (e : End) → slice_get midst.nodes x ≡ Some node → slice_get node.ends y ≡ Some e
          → (d : Bool) → e.down ≡ d
          → Ties site stopped reloads on (if d then midst else goes_over bus.Y (packet_of e kind.Alive)
          (goes_over bus.X (packet_of e kind.Alive) midst)) owed sent
      by_down node e at has true d = T
      by_down node e at has false d = record {
        net = alive_net x y T.net;
        tied = live-tied T.tied x y node e at has runs d;
        owes = calm-owes T.owes (alive_net x y T.net) (λ a b. refl) (λ a b. refl) (λ a b. refl);
        watches = T.watches;
        places = T.places;
      }

      by_end : (node : Node) → slice_get midst.nodes x ≡ Some node → (one : Option End) → slice_get node.ends y ≡ one
          → Ties site stopped reloads on (at_end_of (alive_at node) one midst) owed sent
      by_end node at None e = T
      by_end node at (Some e) has = by_down node e at has e.down refl

      by_node : (one : Option Node) → slice_get midst.nodes x ≡ one
          → Ties site stopped reloads on (at_node (λ node. at_end_of (alive_at node) (slice_get node.ends y)) one
          midst) owed
          sent
      by_node None e = T
      by_node (Some node) at = by_end node at (slice_get node.ends y) refl

  -- the same at each of some nodes
  pub each-ties : (does : ℕ → Midst → Midst)
      → ((y : ℕ) (midst : Midst) → Ties site stopped reloads on midst owed sent
      → Ties site stopped reloads on (does y midst) owed sent)
      → (ys : List ℕ) (midst : Midst) → Ties site stopped reloads on midst owed sent
      → Ties site stopped reloads on (for_each does ys midst) owed sent
  each-ties does keeps [] midst T = T
  each-ties does keeps (y ∷ ys) midst T = each-ties does keeps ys (does y midst) (keeps y midst T)

  -- a node learns something
  pub watched-ties : (midst : Midst) (x : ℕ) (change : Watching → Watching)
      → ((watch : Watching) → IsWatch site.processors x watch → IsWatch site.processors x (change watch))
      → Ties site stopped reloads on midst owed sent → Ties site stopped reloads on (learns x change midst) owed sent
  watched-ties midst x change keeps T = record {
    net = T.net;
    tied = watched-tied x change T.tied;
    owes = T.owes;
    watches = watched-watches midst x change keeps T.watches;
    places = T.places;
  }

  -- as many are owed when more parcels were sent
  pub more-ties : (midst : Midst) (more : List Parcel)
      → ((parcel : Parcel) → IsAmong parcel sent → IsAmong parcel more) → Ties site stopped reloads on midst owed sent
      → Ties site stopped reloads on midst owed more
  more-ties midst more up T =
      record { net = T.net; tied = T.tied; owes = more-owes T.owes more up; watches = T.watches; places = T.places }

  -- a node cuts off a processor that has stopped
  pub cut-ties : (midst : Midst) (x y : ℕ) → is_running stopped x ≡ true → slice_get stopped y ≡ Some true
      → Ties site stopped reloads on midst owed sent
      → Ties site stopped reloads on (cut_off x y midst) (without_those_between x y owed) sent
  cut-ties midst x y runs gone T = later (by_node (slice_get midst.nodes x) refl)
    where
      -- both channels are closed
      closed : (next : Net) → next.ways ≡ T.net.ways → ((a b : ℕ) → IsOpen stopped next a b → IsOpen stopped T.net a b)
          → (IsOpen stopped next x y → ⊥) → (IsOpen stopped next y x → ⊥)
          → Owes site stopped reloads (without_those_between x y owed) sent next
      closed next ways was one other = without-owes T.owes x y next ways was one other

      missing : end_at midst.nodes x y ≡ None → Ties site stopped reloads on midst (without_those_between x y owed) sent
      missing e = record {
        net = T.net;
        tied = T.tied;
        owes = closed T.net refl (λ a b o. o) (λ o. absent T.tied x y e o.sender o.receiver)
            (λ o. absent T.tied x y e o.receiver o.sender);
        watches = T.watches;
        places = T.places;
      }

      marked : (node : Node) (e : End) → slice_get midst.nodes x ≡ Some node → slice_get node.ends y ≡ Some e
          → Ties site stopped reloads on (down_at x y node e midst) (without_those_between x y owed) sent
      marked node e at has = record {
        net = marked_net x y T.net;
        tied = down-tied T.tied x y node e at has runs gone;
        owes = closed (marked_net x y T.net) refl was
            (λ o. let down : true ≡ false = sym (ap (λ (d : End). d.down)
            (put-same x y (after_down (T.net.ends x y)) T.net.ends)) ∙ o.there in absurd cc)
            (λ o. let down : true ≡ false = sym (ap (λ (d : End). d.down)
            (put-same x y (after_down (T.net.ends x y)) T.net.ends)) ∙ o.back in absurd cc);
        watches = ends-watches midst.nodes x y node (after_down e) at T.watches;
        places = T.places;
      }
        where
          up : (a b : ℕ) → (put x y (after_down (T.net.ends x y)) T.net.ends a b).down ≡ false
              → (T.net.ends a b).down ≡ false
          up a b is = put-all (λ a b (d : End). d.down ≡ false → (T.net.ends a b).down ≡ false) x y
              (after_down (T.net.ends x y)) T.net.ends (λ d. absurd cc) (λ a b d. d) a b is

          was : (a b : ℕ) → IsOpen stopped (marked_net x y T.net) a b → IsOpen stopped T.net a b
          was a b o = record {
            sender = o.sender;
            receiver = o.receiver;
            runs = o.runs;
            there = up a b o.there;
            back = up b a o.back;
          }

      by_end : (node : Node) → slice_get midst.nodes x ≡ Some node → (one : Option End) → slice_get node.ends y ≡ one
          → Ties site stopped reloads on (at_end_of (down_at x y node) one midst) (without_those_between x y owed) sent
      by_end node at None e = missing (no-end midst x y node at e)
      by_end node at (Some e) has = marked node e at has

      by_node : (one : Option Node) → slice_get midst.nodes x ≡ one
          → Ties site stopped reloads on (at_node (λ node. at_end_of (down_at x y node) (slice_get node.ends y)) one
          midst)
          (without_those_between x y owed) sent
      by_node None e = missing (no-node midst x y e)
      by_node (Some node) at = by_end node at (slice_get node.ends y) refl

      later : Ties site stopped reloads on (at_end x y (down_at x y) midst) (without_those_between x y owed) sent
          → Ties site stopped reloads on (cut_off x y midst) (without_those_between x y owed) sent
      later L = record {
        net = L.net;
        tied = watched-tied x (changed_at y watching.neighbour_after_down) L.tied;
        owes = L.owes;
        watches = watched-watches (at_end x y (down_at x y) midst) x (changed_at y watching.neighbour_after_down)
            (λ watch is. changed-watch y watching.neighbour_after_down refl is) L.watches;
        places = L.places;
      }

-- fewer packets are on the buses
pub fewer-ties : {site : Site} {stopped : List Bool} {reloads : List ℕ} {on fewer : List Packet} {midst : Midst}
    {owed sent : List Parcel}
    → ((p : Packet) → IsAmong p fewer → IsAmong p on)
    → Ties site stopped reloads on midst owed sent → Ties site stopped reloads fewer midst owed sent
fewer-ties from T =
    record { net = T.net; tied = fewer-tied from T.tied; owes = T.owes; watches = T.watches; places = T.places }

-- an event is over, and what it sent is put on the buses
pub rest-ties : {site : Site} {stopped : List Bool} {reloads : List ℕ} {owed sent : List Parcel} (wires : Wires)
    (midst : Midst)
    → Ties site stopped reloads (on_both wires) midst owed sent
    → TiesAtRest site stopped reloads (with_sent midst wires) owed sent
rest-ties wires midst T =
    record { net = T.net; tied = rest-tied wires T.tied; owes = T.owes; watches = T.watches; places = T.places }

-- Parcels that are posted

-- parcels of letters that were sent and fit the site
abbrev pub AreFit : Site → List Parcel → List Parcel → Type 0
AreFit site sent parcels =
    (parcel : Parcel) → IsAmong parcel parcels
    → IsContent parcel.content × Fits site parcel.content × IsAmong parcel sent

true-own : (stopped : List Bool) (reloads : List ℕ) (sent : List Parcel) (x y : ℕ) (told : NodeMessage) → IsContent told
    → IsAmong (record { sender = x; receiver = y; content = told }) sent → IsTrueOf stopped reloads sent x y told
true-own stopped reloads sent x y (Carrying message) own among = among
true-own stopped reloads sent x y (Changing change) own among = among
true-own stopped reloads sent x y (Reporting node set) own among = absurd cc
true-own stopped reloads sent x y (Declaring processor) own among = absurd cc

pub posted-ties : {site : Site} {stopped : List Bool} {reloads : List ℕ} {on : List Packet} {owed sent : List Parcel}
    (midst : Midst)
    (parcel : Parcel) → IsContent parcel.content → Fits site parcel.content → IsAmong parcel sent
    → Ties site stopped reloads on midst owed sent
    → Ties site stopped reloads on (posted stopped parcel midst) (owed ++ parcel ∷ [])
    sent
posted-ties {site = site} {stopped = stopped} {reloads = reloads} {on = on} {owed = owed} {sent = sent} midst parcel
    own fits among T =
    subst (λ (one : List Parcel). Ties site stopped reloads on (posted stopped parcel midst) (owed ++ one) sent)
    (by-own parcel.sender parcel.receiver parcel.content own) (by (is_running stopped parcel.sender) refl)
  where
    by : (test : Bool) → is_running stopped parcel.sender ≡ test
        → Ties site stopped reloads on (if test then sends parcel.sender parcel.receiver parcel.content midst else
        midst)
        (owed ++ parcels_by parcel.sender parcel.receiver parcel.content) sent
    by true runs =
        sends-ties midst parcel.sender parcel.receiver parcel.content runs fits
        (true-own stopped reloads sent parcel.sender parcel.receiver parcel.content own among) T
    by false rests = record {
      net = T.net;
      tied = T.tied;
      owes = closed-owes T.owes parcel.sender parcel.receiver parcel.content
          (λ o. let is : true ≡ false = sym o.runs ∙ rests in absurd cc);
      watches = T.watches;
      places = T.places;
    }

pub all-posted-ties : {site : Site} {stopped : List Bool} {reloads : List ℕ} {on : List Packet}
    {owed sent : List Parcel}
    (parcels : List Parcel) (midst : Midst) → AreFit site sent parcels
    → Ties site stopped reloads on midst owed sent
    → Ties site stopped reloads on (all_posted stopped parcels midst) (owed ++ parcels)
    sent
all-posted-ties {site = site} {stopped = stopped} {reloads = reloads} {on = on} {owed = owed} {sent = sent} [] midst
    fit T =
    subst (λ o. Ties site stopped reloads on midst o sent) (sym (append-nil owed)) T
all-posted-ties {site = site} {stopped = stopped} {reloads = reloads} {on = on} {owed = owed} {sent = sent}
    (parcel ∷ parcels) midst fit T =
    let here = fit parcel (inl refl) in
    subst (λ o. Ties site stopped reloads on (all_posted stopped (parcel ∷ parcels) midst) o sent)
    (append_assoc owed (parcel ∷ []) parcels)
    (all-posted-ties parcels (posted stopped parcel midst) (λ other among. fit other (inr among))
    (posted-ties midst parcel here.0 here.1 here.2 T))

-- A packet that comes

-- the state of midst between a packet's arrival and the hand-over
pub record Came (site : Site) (stopped : List Bool) (reloads : List ℕ) (on : List Packet) (midst : Midst)
    (owed sent : List Parcel)
    (s r : ℕ) (h : Option (List ℤ)) : Type 0 where
  pub net : Net
  pub tied : IsTied stopped on midst net
  pub arrived : Arrives site stopped reloads owed sent net s r h
  pub watches : AreWatches site.processors midst.nodes
  pub places : length stopped ≡ site.processors

-- a way's output grows by what the end completes
gained : (n : Net) (a b : ℕ) (p : Packet) (e : End) → IsWhole n → Runs n b a → n.ends b a ≡ e → e.down ≡ false
    → (ways_by b a p.kind n.ways a b).out ≡ (n.ways a b).out ++ option_to_list (handed_by_packet p e)
gained n a b p e w live is up =
    by p.kind ∙ ap (λ o. (n.ways a b).out ++ option_to_list o) (sym (when-up None (handed_by_kind p.kind e) up))
  where
    receiving : (n.ways a b).receiver ≡ e.receiving
    receiving = sym (w.tied b a live).receiving ∙ ap (λ (d : End). d.receiving) is

    by : (k : PacketKind) → (ways_by b a k n.ways a b).out ≡ (n.ways a b).out ++ option_to_list (handed_by_kind k e)
    by kind.Alive = sym (append-nil (n.ways a b).out)
    by (kind.Piece number piece) =
        ap (λ (w : Way). w.out) (put-same a b (way_after_piece number piece (n.ways a b)) n.ways)
        ∙ ap (λ r. (n.ways a b).out ++ option_to_list (message_of_piece number piece r)) receiving
    by (kind.Acknowledgement number) =
        put-all (λ c d (w : Way). w.out ≡ (n.ways c d).out) b a (way_after_acknowledgement number (n.ways b a)) n.ways
        refl (λ c d. refl)
        a b ∙ sym (append-nil (n.ways a b).out)

pub came : {site : Site} {stopped : List Bool} {reloads : List ℕ} {on : List Packet} {owed sent : List Parcel}
    (midst : Midst)
    (T : Ties site stopped reloads on midst owed sent) (name : BusName) (p : Packet)
    → IsAmong p T.net.flight → is_running stopped p.receiver ≡ true
    → is_current_at p (end_at midst.nodes p.receiver p.sender) ≡ true
    → Came site stopped reloads on (midst_after_arrival name p midst) owed sent p.sender p.receiver
    (message_at_end p (end_at midst.nodes p.receiver p.sender))
came {site = site} {stopped = stopped} {reloads = reloads} {on = on} {owed = owed} {sent = sent} midst T name p among
    runs
    current = later (by_node (slice_get midst.nodes p.receiver) refl)
  where
    r : ℕ
    r = p.receiver

    Here : Midst → Option End → Type 0
    Here next e = Came site stopped reloads on next owed sent p.sender p.receiver (message_at_end p e)

    nothing : Here midst None
    nothing = record { net = T.net; tied = T.tied; arrived = hands_none T.owes; watches = T.watches; places = T.places }

    at_it : (node : Node) (e : End) → slice_get midst.nodes p.receiver ≡ Some node
        → slice_get node.ends p.sender ≡ Some e → (d : Bool) → e.down ≡ d
        → Here (arrive_at name p node e midst) (Some e)
    at_it node e at has true d = record {
      net = T.net;
      tied = still-tied T.tied p.receiver p.sender node e at has runs (bus_of_answer name p.kind) (sent_by_packet p e)
          (after_packet p e) (rw d refl) (rw d refl);
      arrived = subst (Arrives site stopped reloads owed sent T.net p.sender p.receiver) (sym none) (hands_none T.owes);
      watches = subst (AreWatches site.processors)
          (sym (tied.any-nodes (bus_of_answer name p.kind) (sent_by_packet p e)
          (end_changed p.receiver p.sender node (after_packet p e) midst)))
          (ends-watches midst.nodes p.receiver p.sender node (after_packet p e) at T.watches);
      places = T.places;
    }
      where
        none : handed_by_packet p e ≡ None
        none = rw d refl
    at_it node e at has false d = record {
      net = arrived_net p.receiver p.sender p T.net;
      tied = here_tied;
      arrived = arrives T.owes (arrived_net p.receiver p.sender p T.net) here_tied.whole p.sender p.receiver
          (ways-pushes p.receiver p.sender p.kind T.net.ways) (ways-out p.receiver p.sender p.kind T.net.ways)
          (down-put p.receiver p.sender (after_packet p (T.net.ends p.receiver p.sender)) T.net.ends
          (packet_down (T.net.ends p.receiver p.sender)))
          (handed_by_packet p e)
          (gained T.net p.sender p.receiver p e T.tied.whole (up T.tied p.receiver p.sender node e at has runs d)
          (is-net T.tied p.receiver p.sender node e at has runs) d);
      watches = subst (AreWatches site.processors)
          (sym (tied.any-nodes (bus_of_answer name p.kind) (sent_by_packet p e)
          (end_changed p.receiver p.sender node (after_packet p e) midst)))
          (ends-watches midst.nodes p.receiver p.sender node (after_packet p e) at T.watches);
      places = T.places;
    }
      where
        here_tied : IsTied stopped on (arrive_at name p node e midst) (arrived_net p.receiver p.sender p T.net)
        here_tied = arrive-tied T.tied p.receiver p.sender node e at has runs (bus_of_answer name p.kind) p refl refl
            among (subst (λ (o : Option End). is_current_at p o ≡ true) (is-end midst p.receiver p.sender node e at has)
            current) d

        packet_down : (e : End) → (after_packet p e).down ≡ e.down
        packet_down e = by e.down p.kind
          where
            by : (test : Bool) (k : PacketKind) → (if test then e else after_kind k e).down ≡ e.down
            by true k = refl
            by false kind.Alive = refl
            by false (kind.Piece number piece) = refl
            by false (kind.Acknowledgement number) = refl

    by_end : (node : Node) → slice_get midst.nodes p.receiver ≡ Some node → (one : Option End)
        → slice_get node.ends p.sender ≡ one
        → Here (at_end_of (arrive_at name p node) one midst) one
    by_end node at None e = nothing
    by_end node at (Some e) has = at_it node e at has e.down refl

    by_node : (one : Option Node) → slice_get midst.nodes p.receiver ≡ one
        → Here (at_node (λ node. at_end_of (arrive_at name p node) (slice_get node.ends p.sender)) one midst)
        (option_and_then (λ (node : Node). slice_get node.ends p.sender) one)
    by_node None e = nothing
    by_node (Some node) at = by_end node at (slice_get node.ends p.sender) refl

    note : (k : PacketKind) (watch : Watching) → IsWatch site.processors p.receiver watch
        → IsWatch site.processors p.receiver (heard_of p.sender k watch)
    note kind.Alive watch is = changed-watch p.sender watching.neighbour_after_alive refl is
    note (kind.Piece number piece) watch is = is
    note (kind.Acknowledgement number) watch is = is

    later : Here (at_end p.receiver p.sender (arrive_at name p) midst) (end_at midst.nodes p.receiver p.sender)
        → Here (midst_after_arrival name p midst) (end_at midst.nodes p.receiver p.sender)
    later L = record {
      net = L.net;
      tied = watched-tied p.receiver (heard_of p.sender p.kind) L.tied;
      arrived = L.arrived;
      watches = watched-watches (at_end p.receiver p.sender (arrive_at name p) midst) p.receiver
          (heard_of p.sender p.kind) (note p.kind) L.watches;
      places = L.places;
    }

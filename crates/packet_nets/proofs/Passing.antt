-- What nodes send and take in goes on in the net.
use Rattle.std.proofs.Common.{◌≡◌, ◌≢◌, ◌≤◌, ◌<◌, ◌⊎◌, inl, inr, ℕ, zero, suc, ◌+◌, ℤ, Bool, true, false, not}
use Rattle.std.proofs.Common.{if◌then◌else◌, ◌==◌, List, [], ◌∷◌, ◌++◌, length, Option, Some, None, slice_get}
use Rattle.std.proofs.Common.{slice_set, refl, ap, sym, subst, ◌∙◌, arith, option_map, ◌&&◌, eq-eqb}
use Rattle.std.proofs.lemmas.Bool.{and_from}
use Rattle.std.specs.Option.{option_to_list}
use Rattle.gd_words.specs.Members.{IsAmong}
use Rattle.gd_words.proofs.Among.{among-left, among-right, among-either, among-one}
use Rattle.schedule.specs.declared.bus_name.BusName.{BusName}
use Rattle.schedule.specs.declared.bus_name.BusName.TheVariants as bus
use Rattle.packet_words.specs.declared.packet.Packet.{Packet}
use Rattle.packet_words.specs.declared.packet.Incarnation.{Incarnation}
use Rattle.packet_words.specs.declared.packet.PacketKind.{PacketKind}
use Rattle.packet_words.specs.declared.packet.PacketKind.TheVariants as kind
use Rattle.packet_words.specs.declared.piece.Piece.{Piece}
use Rattle.link_control.specs.declared.channel.Resent.{Resent}
use Rattle.link_control.specs.Ends.{End, packet_of, piece_of, packet_outstanding, is_idle, is_kept, kept, is_ended_by}
use Rattle.link_control.specs.Ends.{is_sent_again, after_push_of, after_push, sent_by_push, after_kind, after_packet}
use Rattle.link_control.specs.Ends.{sent_by_kind, sent_by_packet, after_tick, sent_by_tick, is_current}
use Rattle.alive_regroup.specs.declared.set.ProcessorSet.{ProcessorSet}
use Rattle.alive_regroup.specs.Watching as watching
use Rattle.alive_regroup.specs.Watching.{Watching, changed_at, told_by_tick}
use Rattle.channel_laws.specs.Net.{Net, Runs, packet_in, pushed_net, arrived_net, ticked_net, alive_net, stopped_net}
use Rattle.channel_laws.specs.Net.{marked_net, IsCurrent}
use Rattle.channel_laws.specs.Rounds.{Passes, nothing, by_push, by_packet, by_drop, by_tick, by_alive, by_stop, by_mark}
use Rattle.world_semantics.specs.World.{is_running, terminal_node}
use Rattle.packet_wires.specs.Parcels.{Parcel}
use Rattle.message_layout.specs.Messages.{NodeMessage, Reporting, Declaring}
use Rattle.message_layout.specs.Layout.{words_of}
use Rattle.packet_wires.specs.Nodes.{Node, end_at, numbers, all_nodes, others}
use Rattle.packet_wires.specs.Wires.{Midst, goes_over, any_goes_over, goes_again, at_node, at_end_of, at_end}
use Rattle.packet_wires.specs.Wires.{end_changed, watch_changed, learns, for_each, push_at, sends, sends_all, posted}
use Rattle.packet_wires.specs.Wires.{all_posted, bus_of_answer, heard_of, arrive_at, midst_after_arrival, alive_at}
use Rattle.packet_wires.specs.Wires.{tells_alive}
use Rattle.packet_wires.specs.Wires.{reports, check_at, checks, tick_at, midst_after_tick, down_at, cut_off, declares}
use Rattle.packet_wires.specs.Play.{is_current_at}
use Rattle.packet_nets.specs.Tied.{IsTied}
use Rattle.packet_nets.specs.Passing.{GoesOut, IsPassing, IsCut}
use Rattle.packet_nets.proofs.Sending.{filled, absent, no-node, no-end, is-net, still-tied, up, push-tied, tick-tied}
use Rattle.packet_nets.proofs.Sending.{live-tied, arrive-tied, current-now, is-end}
use Rattle.packet_nets.proofs.Tied.{watched-tied, down-tied, stop-tied, repeated-tied, gone-rests, running-low}
use Rattle.packet_nets.proofs.Tied.{running-stands}
use Rattle.packet_nets.proofs.Watches.{size-set}

-- Whose a packet is

-- what an end sends is its node's
abbrev IsOf : End → Option Packet → Type 0
IsOf e sent = (p : Packet) → IsAmong p (option_to_list sent) → p.sender ≡ e.here

of-none : (e : End) → IsOf e None
of-none e p among = absurd among

of-own : (e : End) (k : PacketKind) → IsOf e (Some (packet_of e k))
of-own e k p among = among-one (λ (q : Packet). q.sender ≡ e.here) p (packet_of e k) among refl

of-either : (e : End) (test : Bool) (one other : Option Packet) → IsOf e one → IsOf e other
    → IsOf e (if test then one else other)
of-either e true one other first second = first
of-either e false one other first second = second

of-outstanding : (e : End) → IsOf e (packet_outstanding e)
of-outstanding e = by (piece_of e.sending.queue e.sending.place)
  where
    by : (piece : Option Piece) → IsOf e (option_map (λ piece. packet_of e (kind.Piece e.sending.numbered piece)) piece)
    by None = of-none e
    by (Some piece) = of-own e (kind.Piece e.sending.numbered piece)

of-push : (words : List ℤ) (e : End) → IsOf e (sent_by_push words e)
of-push words e = of-either e e.down None (if is_idle e.sending then packet_outstanding (after_push words e) else None)
    (of-none e) (of-either e (is_idle e.sending) (packet_outstanding (after_push words e)) None first (of-none e))
  where
    same : (test : Bool) → (if test then e else record e { sending = after_push_of words e.sending }).here ≡ e.here
    same true = refl
    same false = refl

    first : IsOf e (packet_outstanding (after_push words e))
    first p among = of-outstanding (after_push words e) p among ∙ same e.down

of-packet : (packet : Packet) (e : End) → IsOf e (sent_by_packet packet e)
of-packet packet e = of-either e e.down None (sent_by_kind packet.kind e) (of-none e) (by packet.kind)
  where
    by : (k : PacketKind) → IsOf e (sent_by_kind k e)
    by kind.Alive = of-none e
    by (kind.Piece number piece) =
        of-either e (is_kept number (kept number piece e.receiving)) (Some (packet_of e (kind.Acknowledgement number)))
        None (of-own e (kind.Acknowledgement number)) (of-none e)
    by (kind.Acknowledgement number) = of-either e (is_ended_by number e.sending)
        (packet_outstanding (after_kind (kind.Acknowledgement number) e)) None
        (of-outstanding (after_kind (kind.Acknowledgement number) e)) (of-none e)

of-tick : (e : End) → IsOf e (option_map packet_in (sent_by_tick e))
of-tick e = by e.down (is_sent_again e.sending)
  where
    again : (sent : Option Packet) → IsOf e sent
        → IsOf e (option_map packet_in (option_map (λ packet. record { bus = e.sending.resend_bus; packet = packet })
        sent))
    again None own = of-none e
    again (Some packet) own = own

    by : (down sent : Bool) → IsOf e (option_map packet_in
        (if down then None else if sent then option_map
        (λ packet. record { bus = e.sending.resend_bus; packet = packet }) (packet_outstanding e) else None))
    by true sent = of-none e
    by false true = again (packet_outstanding e) (of-outstanding e)
    by false false = of-none e

-- What an end knows of a packet

from-not : (b : Bool) → not b ≡ false → b ≡ true
from-not true e = refl
from-not false e = absurd cc

-- an end knows the incarnations of a packet that bears the present ones
current-there : {stopped : List Bool} {on : List Packet} {midst : Midst} {n : Net} (t : IsTied stopped on midst n)
    (p : Packet) (e : End) → end_at midst.nodes p.receiver p.sender ≡ Some e → IsCurrent n.reloads p
    → is_current p e ≡ true
current-there {n = n} t p e there now =
    let named = t.names p.receiver p.sender e there in
    and_from (p.incarnation.sender == e.incarnation.receiver) (p.incarnation.receiver == e.incarnation.sender)
    (eq-eqb p.incarnation.sender e.incarnation.receiver
    (ap (λ (i : Incarnation). i.sender) now ∙ sym (ap (λ (i : Incarnation). i.receiver) named.incarnation)))
    (eq-eqb p.incarnation.receiver e.incarnation.sender
    (ap (λ (i : Incarnation). i.receiver) now ∙ sym (ap (λ (i : Incarnation). i.sender) named.incarnation)))

-- What goes out stays so, and what is sent goes out

goes-on : (name : BusName) (sent : Option Packet) (midst : Midst) (p : Packet) → GoesOut p midst.out
    → GoesOut p (any_goes_over name sent midst).out
goes-on name None midst p (one, among, same) = (one, among, same)
goes-on name (Some packet) midst p (one, among, same) =
    (one, among-left one midst.out (record { bus = name; packet = packet } ∷ []) among, same)

goes-new : (name : BusName) (sent : Option Packet) (midst : Midst) (p : Packet) → IsAmong p (option_to_list sent)
    → GoesOut p (any_goes_over name sent midst).out
goes-new name None midst p among = absurd among
goes-new name (Some packet) midst p among = (
  record { bus = name; packet = packet },
  among-right (record { bus = name; packet = packet }) midst.out (record { bus = name; packet = packet } ∷ [])
      (inl refl),
  among-one (λ q. q ≡ packet) p packet among refl,
)

abbrev IsHeld : List Packet → List Packet → Midst → Packet → Type 0
IsHeld on came midst p = IsAmong p on ⊎ GoesOut p midst.out ⊎ IsAmong p came

held-on : (on came : List Packet) (name : BusName) (sent : Option Packet) (midst : Midst) (p : Packet)
    → IsHeld on came midst p → IsHeld on came (any_goes_over name sent midst) p
held-on on came name sent midst p (inl stands) = inl stands
held-on on came name sent midst p (inr (inl out)) = inr (inl (goes-on name sent midst p out))
held-on on came name sent midst p (inr (inr before)) = inr (inr before)

-- more came
held-more : (on came more : List Packet) (midst : Midst) (p : Packet) → (IsAmong p came → IsAmong p more)
    → IsHeld on came midst p → IsHeld on more midst p
held-more on came more midst p wider (inl stands) = inl stands
held-more on came more midst p wider (inr (inl out)) = inr (inl out)
held-more on came more midst p wider (inr (inr before)) = inr (inr (wider before))

module _ {a b : ℕ} {stopped : List Bool} {on : List Packet} {start : Net} where
  module _ {came : List Packet} (midst : Midst) (P : IsPassing a b stopped on start came midst) (x y : ℕ) (node : Node)
      (e0 e : End) (name : BusName) (sent : Option Packet) where
    grown-held : (more : List Packet) → ((p : Packet) → IsAmong p came → IsAmong p more) → (next : Net)
        → next.flight ≡ P.net.flight ++ option_to_list sent
        → (p : Packet) → IsAmong p next.flight → IsHeld on more
        (any_goes_over name sent (end_changed x y node e midst)) p
    grown-held more wider next flight p among =
        by (among-either p P.net.flight (option_to_list sent) (subst (IsAmong p) flight among))
      where
        by : IsAmong p P.net.flight ⊎ IsAmong p (option_to_list sent)
            → IsHeld on more (any_goes_over name sent (end_changed x y node e midst)) p
        by (inl before) = held-on on more name sent (end_changed x y node e midst) p
            (held-more on came more (end_changed x y node e midst) p (wider p) (P.held p before))
        by (inr now) = inr (inl (goes-new name sent (end_changed x y node e midst) p now))

    grown-senders : (next : Net) → next.flight ≡ P.net.flight ++ option_to_list sent
        → ((p : Packet) → IsAmong p (option_to_list sent) → p.sender ≤ 16)
        → (p : Packet) → IsAmong p next.flight → p.sender ≤ 16
    grown-senders next flight own p among =
        elim (among-either p P.net.flight (option_to_list sent) (subst (IsAmong p) flight among)) [
          | inl before ↦ P.senders p before
          | inr now ↦ own p now
        ]

    -- an end changes and sends, and the net with it
    grown : (more : List Packet) → ((p : Packet) → IsAmong p came → IsAmong p more) → (next : Net)
        → next.flight ≡ P.net.flight ++ option_to_list sent
        → IsTied stopped on (any_goes_over name sent (end_changed x y node e midst)) next → Passes a b start more next
        → ((p : Packet) → IsAmong p (option_to_list sent) → p.sender ≤ 16)
        → IsPassing a b stopped on start more (any_goes_over name sent (end_changed x y node e midst))
    grown more wider next flight tied passes own = record {
      net = next;
      tied = tied;
      passes = passes;
      held = grown-held more wider next flight;
      senders = grown-senders next flight own;
      few = P.few;
    }

    -- the net stays
    kept-net : IsTied stopped on (any_goes_over name sent (end_changed x y node e midst)) P.net
        → IsPassing a b stopped on start came (any_goes_over name sent (end_changed x y node e midst))
    kept-net tied = record {
      net = P.net;
      tied = tied;
      passes = P.passes;
      held = λ p among. held-on on came name sent (end_changed x y node e midst) p (P.held p among);
      senders = P.senders;
      few = P.few;
    }

  at-end-passes : {came : List Packet} (x y : ℕ) (does : Node → End → Midst → Midst) (midst : Midst)
      → IsPassing a b stopped on start came midst
      → ((node : Node) (e : End) → slice_get midst.nodes x ≡ Some node → slice_get node.ends y ≡ Some e
      → IsPassing a b stopped on start came (does node e midst))
      → IsPassing a b stopped on start came (at_end x y does midst)
  at-end-passes {came = came} x y does midst P each = by_node (slice_get midst.nodes x) refl
    where
      by_end : (node : Node) → slice_get midst.nodes x ≡ Some node → (one : Option End) → slice_get node.ends y ≡ one
          → IsPassing a b stopped on start came (at_end_of (does node) one midst)
      by_end node at None has = P
      by_end node at (Some e) has = each node e at has

      by_node : (one : Option Node) → slice_get midst.nodes x ≡ one
          → IsPassing a b stopped on start came (at_node (λ node. at_end_of (does node) (slice_get node.ends y)) one
          midst)
      by_node None at = P
      by_node (Some node) at = by_end node at (slice_get node.ends y) refl

  -- whose end it is
  own-end : {came : List Packet} (midst : Midst) (P : IsPassing a b stopped on start came midst) (x y : ℕ)
      (node : Node) (e : End) → slice_get midst.nodes x ≡ Some node → slice_get node.ends y ≡ Some e
      → is_running stopped x ≡ true → (sent : Option Packet) → IsOf e sent → (p : Packet)
      → IsAmong p (option_to_list sent) → p.sender ≤ 16
  own-end midst P x y node e at has runs sent own p among =
      subst (λ k. k ≤ 16) (sym (own p among ∙ sym (ap (λ (d : End). d.here) (is-net P.tied x y node e at has runs))
      ∙ (P.tied.whole.named x y).here)) (running-low stopped x P.few runs)

  push-passes : {came : List Packet} (x y : ℕ) (words : List ℤ) → 0 < length words → is_running stopped x ≡ true
      → (midst : Midst) → IsPassing a b stopped on start came midst
      → IsPassing a b stopped on start came (at_end x y (push_at x y words) midst)
  push-passes {came = came} x y words some runs midst P =
      at-end-passes x y (push_at x y words) midst P (λ node e at has. by node e at has e.down refl)
    where
      by : (node : Node) (e : End) → slice_get midst.nodes x ≡ Some node → slice_get node.ends y ≡ Some e → (d : Bool)
          → e.down ≡ d → IsPassing a b stopped on start came (push_at x y words node e midst)
      by node e at has true d =
          kept-net midst P x y node e (after_push words e) bus.X (sent_by_push words e)
          (still-tied P.tied x y node e at has runs bus.X (sent_by_push words e) (after_push words e) (rw d refl)
          (rw d refl))
      by node e at has false d =
          grown midst P x y node e (after_push words e) bus.X (sent_by_push words e) came (λ p among. among)
          (pushed_net x y words P.net)
          (ap (λ o. P.net.flight ++ option_to_list (sent_by_push words o)) (is-net P.tied x y node e at has runs))
          (push-tied P.tied x y node e at has runs words some d)
          (by_push x y words some (up P.tied x y node e at has runs d) P.passes)
          (own-end midst P x y node e at has runs (sent_by_push words e) (of-push words e))

  tick-flight : {came : List Packet} (midst : Midst) (P : IsPassing a b stopped on start came midst) (x y : ℕ)
      (node : Node) (e : End) → slice_get midst.nodes x ≡ Some node
      → slice_get node.ends y ≡ Some e → is_running stopped x ≡ true → (sent : Option Packet)
      → option_map packet_in (sent_by_tick e) ≡ sent
      → (ticked_net x y P.net).flight ≡ P.net.flight ++ option_to_list sent
  tick-flight midst P x y node e at has runs sent is =
      ap (λ o. P.net.flight ++ option_to_list (option_map packet_in (sent_by_tick o)))
      (is-net P.tied x y node e at has runs) ∙ ap (λ o. P.net.flight ++ option_to_list o) is

  tick-own : {came : List Packet} (midst : Midst) (P : IsPassing a b stopped on start came midst) (x y : ℕ)
      (node : Node) (e : End) → slice_get midst.nodes x ≡ Some node
      → slice_get node.ends y ≡ Some e → is_running stopped x ≡ true → (sent : Option Packet)
      → option_map packet_in (sent_by_tick e) ≡ sent
      → (p : Packet) → IsAmong p (option_to_list sent) → p.sender ≤ 16
  tick-own midst P x y node e at has runs sent is =
      own-end midst P x y node e at has runs sent (subst (IsOf e) is (of-tick e))

  tick-passes : {came : List Packet} (x y : ℕ) → is_running stopped x ≡ true → (midst : Midst)
      → IsPassing a b stopped on start came midst
      → IsPassing a b stopped on start came (at_end x y (tick_at x y) midst)
  tick-passes {came = came} x y runs midst P =
      at-end-passes x y (tick_at x y) midst P (λ node e at has. by node e at has e.down refl (sent_by_tick e) refl)
    where
      by : (node : Node) (e : End) → slice_get midst.nodes x ≡ Some node → slice_get node.ends y ≡ Some e → (d : Bool)
          → e.down ≡ d → (sent : Option Resent) → sent_by_tick e ≡ sent
          → IsPassing a b stopped on start came (goes_again sent (end_changed x y node (after_tick e) midst))
      by node e at has true d None is = kept-net midst P x y node e (after_tick e) bus.X None
          (still-tied P.tied x y node e at has runs bus.X None (after_tick e) (rw d refl) refl)
      by node e at has true d (Some resent) is = let none : None ≡ Some resent = sym (rw d refl) ∙ is in absurd cc
      by node e at has false d None is =
          grown midst P x y node e (after_tick e) bus.X None came (λ p among. among) (ticked_net x y P.net)
          (tick-flight midst P x y node e at has runs None (ap (option_map packet_in) is))
          (tick-tied P.tied x y node e at has runs None is d)
          (by_tick x y (up P.tied x y node e at has runs d) P.passes)
          (tick-own midst P x y node e at has runs None (ap (option_map packet_in) is))
      by node e at has false d (Some resent) is =
          grown midst P x y node e (after_tick e) resent.bus (Some resent.packet) came (λ p among. among)
          (ticked_net x y P.net) (tick-flight midst P x y node e at has runs (Some resent.packet)
          (ap (option_map packet_in) is))
          (tick-tied P.tied x y node e at has runs (Some resent) is d)
          (by_tick x y (up P.tied x y node e at has runs d) P.passes)
          (tick-own midst P x y node e at has runs (Some resent.packet) (ap (option_map packet_in) is))

  live-passes : {came : List Packet} (x y : ℕ) → is_running stopped x ≡ true → (midst : Midst)
      → IsPassing a b stopped on start came midst → IsPassing a b stopped on start came (at_end x y alive_at midst)
  live-passes {came = came} x y runs midst P =
      at-end-passes x y alive_at midst P (λ node e at has. by node e at has e.down refl)
    where
      by : (node : Node) (e : End) → slice_get midst.nodes x ≡ Some node → slice_get node.ends y ≡ Some e → (d : Bool)
          → e.down ≡ d
          → IsPassing a b stopped on start came (if d then midst else goes_over bus.Y (packet_of e kind.Alive)
          (goes_over bus.X (packet_of e kind.Alive) midst))
      by node e at has true d = P
      by node e at has false d = record {
        net = alive_net x y P.net;
        tied = live-tied P.tied x y node e at has runs d;
        passes = by_alive x y (up P.tied x y node e at has runs d) P.passes;
        held = λ p among. held p (either p among);
        senders = λ p among. elim (either p among) [
          | inl before ↦ P.senders p before
          | inr now ↦ own-end midst P x y node e at has runs (Some (packet_of e kind.Alive)) (of-own e kind.Alive) p now
        ];
        few = P.few;
      }
        where
          either : (p : Packet) → IsAmong p (P.net.flight ++ packet_of (P.net.ends x y) kind.Alive ∷ [])
              → IsAmong p P.net.flight ⊎ IsAmong p (packet_of e kind.Alive ∷ [])
          either p among = among-either p P.net.flight (packet_of e kind.Alive ∷ [])
              (subst (λ o. IsAmong p (P.net.flight ++ packet_of o kind.Alive ∷ []))
              (is-net P.tied x y node e at has runs) among)

          held : (p : Packet) → IsAmong p P.net.flight ⊎ IsAmong p (packet_of e kind.Alive ∷ [])
              → IsHeld on came (goes_over bus.Y (packet_of e kind.Alive)
              (goes_over bus.X (packet_of e kind.Alive) midst)) p
          held p (inl before) =
              held-on on came bus.Y (Some (packet_of e kind.Alive)) (goes_over bus.X (packet_of e kind.Alive) midst) p
              (held-on on came bus.X (Some (packet_of e kind.Alive)) midst p (P.held p before))
          held p (inr now) = inr (inl (goes-new bus.Y (Some (packet_of e kind.Alive))
              (goes_over bus.X (packet_of e kind.Alive) midst) p now))

  -- a packet that stands on a bus comes to a node that runs, whose end knows its incarnations
  end-comes : {came : List Packet} (name : BusName) (p : Packet) → IsAmong p on → is_running stopped p.receiver ≡ true
      → (midst : Midst) → is_current_at p (end_at midst.nodes p.receiver p.sender) ≡ true
      → IsPassing a b stopped on start came midst
      → IsPassing a b stopped on start (p ∷ came) (at_end p.receiver p.sender (arrive_at name p) midst)
  end-comes {came = came} name p stands runs midst current P = by_node (slice_get midst.nodes p.receiver) refl
    where
      After : Midst → Type 0
      After next = IsPassing a b stopped on start (p ∷ came) next

      missing : end_at midst.nodes p.receiver p.sender ≡ None → After midst
      missing none = absurd (absent P.tied p.receiver p.sender none (running-low stopped p.receiver P.few runs)
          (P.senders p (P.tied.flight p stands)))

      -- the end has cut the sender off
      dropped : (Runs P.net p.receiver p.sender → ⊥) → After midst
      dropped closed = record {
        net = P.net;
        tied = P.tied;
        passes = by_drop p (λ now. closed) P.passes;
        held = λ q among. held-more on came (p ∷ came) midst q (λ before. inr before) (P.held q among);
        senders = P.senders;
        few = P.few;
      }

      here : (node : Node) (e : End) → slice_get midst.nodes p.receiver ≡ Some node
          → slice_get node.ends p.sender ≡ Some e → (d : Bool) → e.down ≡ d
          → After (arrive_at name p node e midst)
      here node e at has true d =
          kept-net midst (dropped (λ live. let bad : true ≡ false = sym d
          ∙ sym (ap (λ (o : End). o.down) (is-net P.tied p.receiver p.sender node e at has runs)) ∙ live.1 in
          absurd cc))
          p.receiver p.sender node e (after_packet p e) (bus_of_answer name p.kind) (sent_by_packet p e)
          (still-tied P.tied p.receiver p.sender node e at has runs (bus_of_answer name p.kind) (sent_by_packet p e)
          (after_packet p e) (rw d refl) (rw d refl))
      here node e at has false d =
          let known : is_current p e ≡ true =
          subst (λ (o : Option End). is_current_at p o ≡ true) (is-end midst p.receiver p.sender node e at has) current
          in
          grown midst P p.receiver p.sender node e (after_packet p e) (bus_of_answer name p.kind) (sent_by_packet p e)
          (p ∷ came) (λ q before. inr before)
          (arrived_net p.receiver p.sender p P.net)
          (ap (λ o. P.net.flight ++ option_to_list (sent_by_packet p o))
          (is-net P.tied p.receiver p.sender node e at has runs))
          (arrive-tied P.tied p.receiver p.sender node e at has runs (bus_of_answer name p.kind) p refl refl
          (P.tied.flight p stands) known d)
          (by_packet p (P.tied.flight p stands)
          (current-now P.tied p.receiver p.sender node e at has runs p refl refl known)
          (up P.tied p.receiver p.sender node e at has runs d) P.passes)
          (own-end midst P p.receiver p.sender node e at has runs (sent_by_packet p e) (of-packet p e))

      by_end : (node : Node) → slice_get midst.nodes p.receiver ≡ Some node → (one : Option End)
          → slice_get node.ends p.sender ≡ one
          → After (at_end_of (arrive_at name p node) one midst)
      by_end node at None has = missing (no-end midst p.receiver p.sender node at has)
      by_end node at (Some e) has = here node e at has e.down refl

      by_node : (one : Option Node) → slice_get midst.nodes p.receiver ≡ one
          → After (at_node (λ node. at_end_of (arrive_at name p node) (slice_get node.ends p.sender)) one midst)
      by_node None at = missing (no-node midst p.receiver p.sender at)
      by_node (Some node) at = by_end node at (slice_get node.ends p.sender) refl

  -- to one that doesn't run, or whose end knows others, it comes and is dropped
  pub drop-passes : {came : List Packet} (p : Packet) → IsAmong p on → (midst : Midst)
      → (is_running stopped p.receiver && is_current_at p (end_at midst.nodes p.receiver p.sender)) ≡ false
      → IsPassing a b stopped on start came midst
      → IsPassing a b stopped on start (p ∷ came) midst
  drop-passes {came = came} p stands midst rests P = record {
    net = P.net;
    tied = P.tied;
    passes = by_drop p (λ now live. (let runs : is_running stopped p.receiver ≡ true =
        from-not (is_running stopped p.receiver) (sym (P.tied.stood p.receiver) ∙ live.0) in
        let one = P.tied.shape p.receiver p.sender (running-low stopped p.receiver P.few runs)
        (P.senders p (P.tied.flight p stands)) in
        let comes : (is_running stopped p.receiver && is_current_at p (end_at midst.nodes p.receiver p.sender)) ≡ true =
        and_from (is_running stopped p.receiver) (is_current_at p (end_at midst.nodes p.receiver p.sender)) runs
        (ap (is_current_at p) one.1 ∙ current-there P.tied p one.0 one.1 now) in
        let bad : true ≡ false = sym comes ∙ rests in absurd cc)) P.passes;
    held = λ q among. held-more on came (p ∷ came) midst q (λ before. inr before) (P.held q among);
    senders = P.senders;
    few = P.few;
  }

  -- a node learns something
  pub watched-passes : {came : List Packet} (x : ℕ) (change : Watching → Watching) (midst : Midst)
      → IsPassing a b stopped on start came midst
      → IsPassing a b stopped on start came (learns x change midst)
  watched-passes {came = came} x change midst P = record {
    net = P.net;
    tied = watched-tied x change P.tied;
    passes = P.passes;
    held = λ p among. subst (λ o. IsAmong p on ⊎ GoesOut p o ⊎ IsAmong p came) (sym (same (slice_get midst.nodes x)))
        (P.held p among);
    senders = P.senders;
    few = P.few;
  }
    where
      same : (one : Option Node) → (at_node (watch_changed x change) one midst).out ≡ midst.out
      same None = refl
      same (Some node) = refl

  pub come-passes : {came : List Packet} (name : BusName) (p : Packet) → IsAmong p on
      → is_running stopped p.receiver ≡ true → (midst : Midst)
      → is_current_at p (end_at midst.nodes p.receiver p.sender) ≡ true
      → IsPassing a b stopped on start came midst
      → IsPassing a b stopped on start (p ∷ came) (midst_after_arrival name p midst)
  come-passes name p stands runs midst current P =
      watched-passes p.receiver (heard_of p.sender p.kind) (at_end p.receiver p.sender (arrive_at name p) midst)
      (end-comes name p stands runs midst current P)

  -- a node cuts off a processor that has stopped
  pub cut-passes : {came : List Packet} (x y : ℕ) → is_running stopped x ≡ true → slice_get stopped y ≡ Some true
      → (midst : Midst) → IsPassing a b stopped on start came midst
      → IsPassing a b stopped on start came (cut_off x y midst)
  cut-passes x y runs gone midst P =
      watched-passes x (changed_at y watching.neighbour_after_down) (at_end x y (down_at x y) midst)
      (at-end-passes x y (down_at x y) midst P (λ node e at has. record {
        net = marked_net x y P.net;
        tied = down-tied P.tied x y node e at has runs gone;
        passes = by_mark x y (P.tied.stood y ∙ ap not (gone-rests stopped y gone)) P.passes;
        held = P.held;
        senders = P.senders;
        few = P.few;
      }))

  -- a packet that stands on a bus goes out again
  pub again-passes : {came : List Packet} (name : BusName) (p : Packet) → IsAmong p on → (midst : Midst)
      → IsPassing a b stopped on start came midst
      → IsPassing a b stopped on start came (goes_over name p midst)
  again-passes {came = came} name p stands midst P = record {
    net = P.net;
    tied = repeated-tied name p stands P.tied;
    passes = P.passes;
    held = λ q among. held-on on came name (Some p) midst q (P.held q among);
    senders = P.senders;
    few = P.few;
  }

  -- Messages and ticks

  each-passes : {came : List Packet} (does : ℕ → Midst → Midst)
      → ((y : ℕ) (midst : Midst) → IsPassing a b stopped on start came midst
      → IsPassing a b stopped on start came (does y midst))
      → (ys : List ℕ) (midst : Midst) → IsPassing a b stopped on start came midst
      → IsPassing a b stopped on start came (for_each does ys midst)
  each-passes does keeps [] midst P = P
  each-passes does keeps (y ∷ ys) midst P = each-passes does keeps ys (does y midst) (keeps y midst P)

  sends-passes : {came : List Packet} (x y : ℕ) (told : NodeMessage) → is_running stopped x ≡ true → (midst : Midst)
      → IsPassing a b stopped on start came midst
      → IsPassing a b stopped on start came (sends x y told midst)
  sends-passes x y told runs midst P = push-passes x y (words_of told) (filled told) runs midst P

  sends-all-passes : {came : List Packet} (x : ℕ) (told : NodeMessage) (ys : List ℕ) → is_running stopped x ≡ true
      → (midst : Midst) → IsPassing a b stopped on start came midst
      → IsPassing a b stopped on start came (sends_all x told ys midst)
  sends-all-passes x told ys runs midst P =
      each-passes (λ y. sends x y told) (λ y midst P. sends-passes x y told runs midst P) ys midst P

  pub posted-passes : {came : List Packet} (parcels : List Parcel) (midst : Midst)
      → IsPassing a b stopped on start came midst
      → IsPassing a b stopped on start came (all_posted stopped parcels midst)
  posted-passes [] midst P = P
  posted-passes {came = came} (parcel ∷ parcels) midst P =
      posted-passes parcels (posted stopped parcel midst) (one (is_running stopped parcel.sender) refl)
    where
      one : (test : Bool) → is_running stopped parcel.sender ≡ test
          → IsPassing a b stopped on start came (if test then sends parcel.sender parcel.receiver parcel.content midst
          else midst)
      one true runs = sends-passes parcel.sender parcel.receiver parcel.content runs midst P
      one false rests = P

  -- what goes out before the ends tick
  checked-passes : {came : List Packet} (processors x : ℕ) → is_running stopped x ≡ true → (midst : Midst)
      → IsPassing a b stopped on start came midst
      → IsPassing a b stopped on start came (checks processors x (tells_alive processors x midst))
  checked-passes {came = came} processors x runs midst P =
      checked (tells_alive processors x midst) (alive (x == terminal_node))
    where
      alive : (test : Bool) → IsPassing a b stopped on start came
          (if test then midst else for_each (λ y. at_end x y alive_at) (others processors x) midst)
      alive true = P
      alive false = each-passes (λ y. at_end x y alive_at) (λ y midst P. live-passes x y runs midst P)
          (others processors x) midst P

      report : (set : Option ProcessorSet) (midst : Midst) → IsPassing a b stopped on start came midst
          → IsPassing a b stopped on start came (reports processors x set midst)
      report None midst P = P
      report (Some silent) midst P = sends-all-passes x (Reporting x silent) (others processors x) runs midst P

      checked : (midst : Midst) → IsPassing a b stopped on start came midst
          → IsPassing a b stopped on start came (checks processors x midst)
      checked midst P = by (slice_get midst.nodes x) refl
        where
          by : (one : Option Node) → slice_get midst.nodes x ≡ one
              → IsPassing a b stopped on start came (at_node (check_at processors x) one midst)
          by None at = P
          by (Some node) at =
              report (told_by_tick node.watch) (watch_changed x watching.after_tick node midst)
              (subst (λ (o : Option Node). IsPassing a b stopped on start came
              (at_node (watch_changed x watching.after_tick) o midst)) at
              (watched-passes x watching.after_tick midst P))

  pub ticked-passes : {came : List Packet} (processors x : ℕ) → is_running stopped x ≡ true → (midst : Midst)
      → IsPassing a b stopped on start came midst
      → IsPassing a b stopped on start came (midst_after_tick processors x midst)
  ticked-passes processors x runs midst P =
      each-passes (λ y. at_end x y (tick_at x y)) (λ y midst P. tick-passes x y runs midst P) all_nodes
      (checks processors x (tells_alive processors x midst))
      (checked-passes processors x runs midst P)

  pub declares-passes : {came : List Packet} (processors x processor : ℕ) → is_running stopped x ≡ true
      → (midst : Midst) → IsPassing a b stopped on start came midst
      → IsPassing a b stopped on start came (declares processors x processor midst)
  declares-passes processors x processor runs midst P =
      sends-all-passes x (Declaring processor) (others processors x ++ terminal_node ∷ []) runs midst P

-- one processor stops, which is neither of both
pub stop-passes : {a b : ℕ} {stopped : List Bool} {on : List Packet} {start : Net} {came : List Packet} {midst : Midst}
    (processor : ℕ) → slice_get stopped processor ≡ Some false
    → processor ≢ a → processor ≢ b → IsPassing a b stopped on start came midst
    → IsPassing a b (slice_set stopped processor true) on start came midst
stop-passes {stopped = stopped} processor runs one other P = record {
  net = stopped_net processor P.net;
  tied = stop-tied stopped processor runs P.tied;
  passes = by_stop processor one other P.passes;
  held = P.held;
  senders = P.senders;
  few = subst (λ k. k ≤ 16) (sym (size-set stopped processor true)) P.few;
}

-- A tick of the node a, cut where its end with b ticks

numbers-have : (from many k : ℕ) → k < many → IsAmong (from + k) (numbers from many)
numbers-have from zero k low = absurd (omega (arith, low))
numbers-have from (suc many) zero low = inl (omega arith)
numbers-have from (suc many) (suc k) low =
    inr (subst (λ j. IsAmong j (numbers (from + 1) many)) (omega arith)
    (numbers-have (from + 1) many k (omega (arith, low))))

module _ {a b : ℕ} {stopped : List Bool} {on : List Packet} {start : Net} (runs : is_running stopped a ≡ true)
    (other : is_running stopped b ≡ true) where
  own-tick : (midst : Midst) → IsPassing a b stopped on start [] midst
      → IsCut a b stopped on start (at_end a b (tick_at a b) midst)
  own-tick midst P = by_node (slice_get midst.nodes a) refl
    where
      Cut : Midst → Type 0
      Cut next = IsCut a b stopped on start next

      missing : end_at midst.nodes a b ≡ None → ⊥
      missing none = absent P.tied a b none (running-low stopped a P.few runs) (running-low stopped b P.few other)

      ticks : (node : Node) (e : End) → slice_get midst.nodes a ≡ Some node → slice_get node.ends b ≡ Some e
          → e.down ≡ false → (name : BusName) (sent : Option Packet)
          → option_map packet_in (sent_by_tick e) ≡ sent
          → IsTied stopped on (any_goes_over name sent (end_changed a b node (after_tick e) midst))
          (ticked_net a b P.net)
          → Cut (any_goes_over name sent (end_changed a b node (after_tick e) midst))
      ticks node e at has d name sent is tied = record {
        middle = P.net;
        first = P.passes;
        rest = record {
          net = ticked_net a b P.net;
          tied = tied;
          passes = nothing;
          held = grown-held midst P a b node e (after_tick e) name sent [] (λ p none. none) (ticked_net a b P.net)
              (tick-flight midst P a b node e at has runs sent is);
          senders = grown-senders midst P a b node e (after_tick e) name sent (ticked_net a b P.net)
              (tick-flight midst P a b node e at has runs sent is)
              (tick-own midst P a b node e at has runs sent is);
          few = P.few;
        };
      }

      here : (node : Node) (e : End) → slice_get midst.nodes a ≡ Some node → slice_get node.ends b ≡ Some e
          → (d : Bool) → e.down ≡ d → (sent : Option Resent) → sent_by_tick e ≡ sent
          → Cut (goes_again sent (end_changed a b node (after_tick e) midst))
      here node e at has true d sent is =
          absurd (let bad : true ≡ false = sym (P.tied.down a b
          (ap (λ (o : End). o.down) (is-net P.tied a b node e at has runs) ∙ d))
          ∙ running-stands stopped b other in cc)
      here node e at has false d None is = ticks node e at has d bus.X None (ap (option_map packet_in) is)
          (tick-tied P.tied a b node e at has runs None is d)
      here node e at has false d (Some resent) is =
          ticks node e at has d resent.bus (Some resent.packet) (ap (option_map packet_in) is)
          (tick-tied P.tied a b node e at has runs (Some resent) is d)

      by_end : (node : Node) → slice_get midst.nodes a ≡ Some node → (one : Option End) → slice_get node.ends b ≡ one
          → Cut (at_end_of (tick_at a b node) one midst)
      by_end node at None has = absurd (missing (no-end midst a b node at has))
      by_end node at (Some e) has = here node e at has e.down refl (sent_by_tick e) refl

      by_node : (one : Option Node) → slice_get midst.nodes a ≡ one
          → Cut (at_node (λ node. at_end_of (tick_at a b node) (slice_get node.ends b)) one midst)
      by_node None at = absurd (missing (no-node midst a b at))
      by_node (Some node) at = by_end node at (slice_get node.ends b) refl

  each-cut : (ys : List ℕ) → IsAmong b ys → (midst : Midst) → IsPassing a b stopped on start [] midst
      → IsCut a b stopped on start (for_each (λ y. at_end a y (tick_at a y)) ys midst)
  each-cut [] among midst P = absurd among
  each-cut (y ∷ ys) (inl same) midst P =
      let cut = subst (λ k. IsCut a b stopped on start (at_end a k (tick_at a k) midst)) same (own-tick midst P) in
      record {
        middle = cut.middle;
        first = cut.first;
        rest = each-passes (λ y. at_end a y (tick_at a y)) (λ y midst P. tick-passes a y runs midst P) ys
            (at_end a y (tick_at a y) midst) cut.rest;
      }
  each-cut (y ∷ ys) (inr among) midst P =
      each-cut ys among (at_end a y (tick_at a y) midst) (tick-passes a y runs midst P)

  pub ticked-cut : (processors : ℕ) (midst : Midst) → IsPassing a b stopped on start [] midst
      → IsCut a b stopped on start (midst_after_tick processors a midst)
  ticked-cut processors midst P =
      each-cut all_nodes (let low = running-low stopped b P.few other in
      subst (λ k. IsAmong k all_nodes) (omega arith) (numbers-have 0 17 b (omega (arith, low))))
      (checks processors a (tells_alive processors a midst)) (checked-passes processors a runs midst P)

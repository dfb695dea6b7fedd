-- Channels between any number of nodes.
use Rattle.std.specs.Prelude.{◌≡◌, ◌<◌, ◌≤◌, ℕ, ◌+◌, ◌==◌, ◌&&◌, ◌||◌, ℤ, Bool, true, false, List, [], ◌∷◌, ◌++◌}
use Rattle.std.specs.Prelude.{length}
use Rattle.std.specs.Prelude.{if◌then◌else◌, Option}
use Rattle.std.specs.Option.{option_map, option_to_list}
use Rattle.gd_words.specs.Members.{IsAmong}
use Rattle.packet_words.specs.declared.packet.Packet.{Packet}
use Rattle.packet_words.specs.declared.packet.Incarnation.{Incarnation}
use Rattle.packet_words.specs.declared.packet.PacketKind.{PacketKind}
use Rattle.packet_words.specs.declared.packet.PacketKind.TheVariants as kind
use Rattle.packet_words.specs.Layout.{is_kind}
use Rattle.link_control.specs.declared.channel.Resent.{Resent}
use Rattle.link_control.specs.Ends.{End, new_end, packet_of, after_push, sent_by_push, after_packet, sent_by_packet}
use Rattle.link_control.specs.Ends.{after_tick, sent_by_tick, after_down}
use Rattle.channel_laws.specs.Way.{Way, IsJoint, IsPieceOf, IsReceiptOf, quiet_way, way_after_push, way_after_piece}
use Rattle.channel_laws.specs.Way.{way_after_acknowledgement, way_after_tick}

-- a table with one place changed
abbrev pub put : {A : Type 0} → ℕ → ℕ → A → (ℕ → ℕ → A) → ℕ → ℕ → A
put x y v f a b = if (a == x) && (b == y) then v else f a b

abbrev pub put_one : {A : Type 0} → ℕ → A → (ℕ → A) → ℕ → A
put_one x v f a = if a == x then v else f a

-- how often each node was reloaded; the end of each node's channel with each node; the packets in flight; which nodes
-- have stopped; and the ways: what went from each node to each node so far, with both ends as each was last before its
-- node stopped or threw it away
pub record Net : Type 0 where
  pub reloads : ℕ → ℕ
  pub ends : ℕ → ℕ → End
  pub flight : List Packet
  pub stopped : ℕ → Bool
  pub ways : ℕ → ℕ → Way

abbrev pub incarnation_of : (ℕ → ℕ) → ℕ → ℕ → Incarnation
incarnation_of reloads x y = record { sender = reloads x; receiver = reloads y }

-- at the beginning nothing was pushed, and all nodes run
abbrev pub quiet_net : (ℕ → ℕ) → Net
quiet_net reloads = record {
  reloads = reloads;
  ends = λ x y. new_end x y (incarnation_of reloads x y);
  flight = [];
  stopped = λ x. false;
  ways = λ x y. quiet_way;
}

-- the node x runs and hasn't marked y down
abbrev pub Runs : Net → ℕ → ℕ → Type 0
Runs n x y = (n.stopped x ≡ false) × ((n.ends x y).down ≡ false)

-- a packet bears the present incarnations of its sender and of its receiver
abbrev pub IsCurrent : (ℕ → ℕ) → Packet → Type 0
IsCurrent reloads p = p.incarnation ≡ incarnation_of reloads p.sender p.receiver

-- What happens in a net

-- the end of x with y is another, with what it sent and the ways after it
abbrev pub at_end : ℕ → ℕ → End → Option Packet → (ℕ → ℕ → Way) → Net → Net
at_end x y e sent ways n = record n { ends = put x y e n.ends; flight = n.flight ++ option_to_list sent; ways = ways }

-- at x a message to y is pushed
abbrev pub pushed_net : ℕ → ℕ → List ℤ → Net → Net
pushed_net x y message n =
    at_end x y (after_push message (n.ends x y)) (sent_by_push message (n.ends x y))
    (put x y (way_after_push message (n.ways x y)) n.ways) n

-- what came from y to x: a piece on its way, or an acknowledgement of the way back
abbrev pub ways_by : ℕ → ℕ → PacketKind → (ℕ → ℕ → Way) → ℕ → ℕ → Way
ways_by x y kind.Alive ways = ways
ways_by x y (kind.Piece number piece) ways = put y x (way_after_piece number piece (ways y x)) ways
ways_by x y (kind.Acknowledgement number) ways = put x y (way_after_acknowledgement number (ways x y)) ways

-- at x a packet of y comes
abbrev pub arrived_net : ℕ → ℕ → Packet → Net → Net
arrived_net x y p n =
    at_end x y (after_packet p (n.ends x y)) (sent_by_packet p (n.ends x y)) (ways_by x y p.kind n.ways) n

abbrev pub packet_in : Resent → Packet
packet_in resent = resent.packet

-- at x the end with y ticks
abbrev pub ticked_net : ℕ → ℕ → Net → Net
ticked_net x y n =
    at_end x y (after_tick (n.ends x y)) (option_map packet_in (sent_by_tick (n.ends x y)))
    (put x y (way_after_tick (n.ways x y)) n.ways) n

-- x tells y that it is alive
abbrev pub alive_net : ℕ → ℕ → Net → Net
alive_net x y n = record n { flight = n.flight ++ packet_of (n.ends x y) kind.Alive ∷ [] }

-- x stops
abbrev pub stopped_net : ℕ → Net → Net
stopped_net x n = record n { stopped = put_one x true n.stopped }

-- x marks y down
abbrev pub marked_net : ℕ → ℕ → Net → Net
marked_net x y n = record n { ends = put x y (after_down (n.ends x y)) n.ends }

-- whether one of two nodes is the node x
abbrev pub is_of : ℕ → ℕ → ℕ → Bool
is_of x a b = (a == x) || (b == x)

-- how often each node was reloaded, after x was loaded again
abbrev pub more_reloads : ℕ → (ℕ → ℕ) → ℕ → ℕ
more_reloads x reloads = put_one x (reloads x + 1) reloads

-- x is loaded again: it runs, all ends of it and with it are new, and nothing has gone on their ways. What is in flight
-- stays there
abbrev pub reloaded_net : ℕ → Net → Net
reloaded_net x n = record {
  reloads = more_reloads x n.reloads;
  ends = λ a b. if is_of x a b then new_end a b (incarnation_of (more_reloads x n.reloads) a b) else n.ends a b;
  flight = n.flight;
  stopped = put_one x false n.stopped;
  ways = λ a b. if is_of x a b then quiet_way else n.ways a b;
}

-- what may happen next: at a node that runs and hasn't marked the other one down a message is pushed, a packet comes
-- that bears the present incarnations, or a tick or a sign of life goes out; packets are lost, repeated or come to
-- stand in another order, so that none is there that wasn't; a node stops; a node marks down one that has stopped; a
-- node is loaded again that has stopped
pub data Goes (n : Net) : Net → Type 0 where
  pushes : (x y : ℕ) (message : List ℤ) → 0 < length message → Runs n x y → Goes n (pushed_net x y message n)
  arrives : (p : Packet) → IsAmong p n.flight → IsCurrent n.reloads p → Runs n p.receiver p.sender
      → Goes n (arrived_net p.receiver p.sender p n)
  ticks : (x y : ℕ) → Runs n x y → Goes n (ticked_net x y n)
  lives : (x y : ℕ) → Runs n x y → Goes n (alive_net x y n)
  bus_changes : (flight : List Packet) → ((p : Packet) → IsAmong p flight → IsAmong p n.flight)
      → Goes n (record n { flight = flight })
  stops : (x : ℕ) → Goes n (stopped_net x n)
  marks : (x y : ℕ) → n.stopped y ≡ true → Goes n (marked_net x y n)
  loads : (x : ℕ) → n.stopped x ≡ true → Goes n (reloaded_net x n)

-- what may come of a net
pub data Leads (start : Net) : Net → Type 0 where
  at_once : Leads start start
  later : {n next : Net} → Leads start n → Goes n next → Leads start next

-- What a net keeps

-- a packet from y to x is a piece of the way from y to x, or an acknowledgement of the way back
abbrev pub IsTold : Way → Way → PacketKind → Type 0
IsTold there back kind.Alive = Unit {0}
IsTold there back (kind.Piece number piece) = IsPieceOf there number piece
IsTold there back (kind.Acknowledgement number) = IsReceiptOf back number

-- a packet in flight keeps to the layout, bears no incarnation that isn't reached yet, and, if it bears the present
-- ones, tells what is so
pub record IsRight (reloads : ℕ → ℕ) (ways : ℕ → ℕ → Way) (p : Packet) : Type 0 where
  pub fits : is_kind p.kind ≡ true
  pub sender : p.incarnation.sender ≤ reloads p.sender
  pub receiver : p.incarnation.receiver ≤ reloads p.receiver
  pub told : IsCurrent reloads p → IsTold (ways p.sender p.receiver) (ways p.receiver p.sender) p.kind

-- the end of a with b bears its names
pub record IsNamed (reloads : ℕ → ℕ) (a b : ℕ) (e : End) : Type 0 where
  pub here : e.here ≡ a
  pub there : e.there ≡ b
  pub incarnation : e.incarnation ≡ incarnation_of reloads a b

-- the end of a with b is that of its ways
pub record IsTied (ways : ℕ → ℕ → Way) (a b : ℕ) (e : End) : Type 0 where
  pub sending : e.sending ≡ (ways a b).sender
  pub receiving : e.receiving ≡ (ways b a).receiver

-- a net is whole: both ends of each way are joint, each end bears its names and, where its node runs and hasn't thrown
-- it away, is that of its ways, and each packet in flight is right
pub record IsWhole (n : Net) : Type 0 where
  pub joint : (a b : ℕ) → IsJoint (n.ways a b)
  pub named : (a b : ℕ) → IsNamed n.reloads a b (n.ends a b)
  pub tied : (a b : ℕ) → Runs n a b → IsTied n.ways a b (n.ends a b)
  pub flight : (p : Packet) → IsAmong p n.flight → IsRight n.reloads n.ways p

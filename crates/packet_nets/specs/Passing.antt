-- What goes on in the net of channels while an event is played.
use Rattle.std.specs.Prelude.{◌≡◌, ◌≤◌, ◌⊎◌, ℕ, Bool, List, [], length}
use Rattle.gd_words.specs.declared.limits.TheConstants.{MOST_PROCESSORS, TERMINAL_NODE}
use Rattle.gd_words.specs.Members.{IsAmong}
use Rattle.packet_words.specs.declared.packet.Packet.{Packet}
use Rattle.channel_laws.specs.Net.{Net, ticked_net}
use Rattle.channel_laws.specs.Rounds.{Passes}
use Rattle.packet_wires.specs.Wires.{Wires, Midst, Outgoing, nothing_sent}
use Rattle.packet_nets.specs.Tied.{IsTied}
use Rattle.packet_nets.specs.Owing.{on_both}

-- a packet was sent
abbrev pub GoesOut : Packet → List Outgoing → Type 0
GoesOut p out = (one : Outgoing) × IsAmong one out × (p ≡ one.packet)

-- between events the wires are those of a net in which just those packets are in flight that are on the buses, each
-- sent by a node
pub record IsNet (stopped : List Bool) (wires : Wires) (n : Net) : Type 0 where
  pub tied : IsTied stopped (on_both wires) (nothing_sent wires.nodes) n
  pub held : (p : Packet) → IsAmong p n.flight → IsAmong p (on_both wires)
  pub senders : (p : Packet) → IsAmong p n.flight → p.sender ≤ TERMINAL_NODE

-- in the midst of an event that found such packets on the buses: what has gone on so far in the net of its beginning,
-- while a and b don't stop, leads to that of the wires; each packet in flight there is on the buses, or was sent, or
-- came
pub record IsPassing (a b : ℕ) (stopped : List Bool) (on : List Packet) (start : Net) (came : List Packet)
    (midst : Midst) : Type 0 where
  pub net : Net
  pub tied : IsTied stopped on midst net
  pub passes : Passes a b start came net
  pub held : (p : Packet) → IsAmong p net.flight → IsAmong p on ⊎ GoesOut p midst.out ⊎ IsAmong p came
  pub senders : (p : Packet) → IsAmong p net.flight → p.sender ≤ TERMINAL_NODE
  pub few : length stopped ≤ MOST_PROCESSORS

-- the same of a tick of the node a, cut where its end with b ticks: what went on before that, and what since
pub record IsCut (a b : ℕ) (stopped : List Bool) (on : List Packet) (start : Net) (midst : Midst) : Type 0 where
  pub middle : Net
  pub first : Passes a b start [] middle
  pub rest : IsPassing a b stopped on (ticked_net a b middle) [] midst

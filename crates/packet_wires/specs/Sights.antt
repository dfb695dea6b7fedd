-- Packets as they are seen on the buses in worked runs.
use Rattle.std.specs.Prelude.{ℕ, if◌then◌else◌, List, [], ◌∷◌, map}
use Rattle.schedule.specs.declared.event.Event.{Event}
use Rattle.message_wires.specs.machine_states.specs.States.{Played, Makes, Skips, Would}
use Rattle.packet_words.specs.declared.packet.Packet.{Packet}
use Rattle.packet_words.specs.declared.packet.PacketKind.{PacketKind}
use Rattle.packet_words.specs.declared.packet.PacketKind.TheVariants as kind
use Rattle.packet_wires.specs.Wires.{Wires}
use Rattle.packet_wires.specs.Play.{Packeted, play}

-- an I'm-alive packet; a piece that others follow, or the last one of its message; an acknowledgement
pub data Sort : Type 0 where
  Alive : Sort
  Piece : (number : ℕ) → Sort
  Last : (number : ℕ) → Sort
  Acknowledged : (number : ℕ) → Sort

pub record Sight : Type 0 where
  pub sender : ℕ
  pub receiver : ℕ
  pub sort : Sort

-- what is on bus X and on bus Y
pub record Buses : Type 0 where
  pub x : List Sight
  pub y : List Sight

abbrev pub sort_of : PacketKind → Sort
sort_of kind.Alive = Alive
sort_of (kind.Piece number piece) = if piece.last then Last number else Piece number
sort_of (kind.Acknowledgement number) = Acknowledged number

abbrev pub sight : Packet → Sight
sight packet = record { sender = packet.sender; receiver = packet.receiver; sort = sort_of packet.kind }

abbrev pub seen : Packeted → Buses
seen s = record { x = map sight s.wires.x; y = map sight s.wires.y }

abbrev pub alive : ℕ → ℕ → Sight
alive sender receiver = record { sender = sender; receiver = receiver; sort = Alive }

abbrev pub piece : ℕ → ℕ → ℕ → Sight
piece sender receiver number = record { sender = sender; receiver = receiver; sort = Piece number }

abbrev pub last : ℕ → ℕ → ℕ → Sight
last sender receiver number = record { sender = sender; receiver = receiver; sort = Last number }

abbrev pub acknowledged : ℕ → ℕ → ℕ → Sight
acknowledged sender receiver number = record { sender = sender; receiver = receiver; sort = Acknowledged number }

abbrev pub only_x : List Sight → Buses
only_x sights = record { x = sights; y = [] }

abbrev pub none : Buses
none = only_x []

-- States after events

abbrev pub state_after : Played Wires → Packeted → Packeted
state_after (Makes next) s = next
state_after Skips s = s
state_after (Would harm) s = s

abbrev pub end_of : Packeted → List Event → Packeted
end_of s [] = s
end_of s (event ∷ events) = end_of (state_after (play s event) s) events

-- what is on the buses after each event
abbrev pub buses_from : Packeted → List Event → List Buses
buses_from s [] = []
buses_from s (event ∷ events) = let next = state_after (play s event) s in seen next ∷ buses_from next events

-- The packet that an event names, and what became of it.
use Rattle.std.specs.Prelude.{ℕ, ◌==◌, nat_le, ℤ, Bool, true, false, if◌then◌else◌, List, slice_get, Option, Some, None}
use Rattle.std.specs.Option.{option_and_then, option_map}
use Rattle.link_control.specs.Ends.{End, is_own}
use Rattle.packet_words.specs.declared.packet.Packet.{Packet}
use Rattle.packet_words.specs.declared.packet.PacketKind.{PacketKind}
use Rattle.packet_words.specs.declared.packet.PacketKind.TheVariants as kind
use Rattle.schedule.specs.declared.event.Event.{Event}
use Rattle.schedule.specs.declared.event.Event.TheVariants.{Run, Enter, Deliver, Lose, Repeat, Tick, Fail, Reload}
use Rattle.schedule.specs.declared.event.Event.TheVariants.{Drive}
use Rattle.machine_views.specs.site_machine.specs.packet_wires.specs.Nodes.{end_at}
use Rattle.machine_views.specs.site_machine.specs.packet_wires.specs.Play.{Packeted, is_current_at, packet_at}
use Rattle.trace_lines.specs.declared.finding.Fate.{Fate}
use Rattle.trace_lines.specs.declared.finding.Fate.TheVariants as fate
use Rattle.trace_lines.specs.declared.finding.Finding.{Finding}
use Rattle.trace_lines.specs.declared.finding.Finding.TheVariants as finding
use Rattle.trace_lines.specs.declared.finding.MessageName.{MessageName}
use Rattle.trace_lines.specs.declared.finding.PacketSight.{PacketSight}
use Rattle.trace_lines.specs.declared.finding.PacketSort.{PacketSort}
use Rattle.trace_lines.specs.declared.finding.PacketSort.TheVariants as sort
use Rattle.world_semantics.specs.World.{has_marked, is_running}
use Rattle.event_findings.specs.Messages.{message_named}

abbrev pub sort_of : PacketKind → PacketSort
sort_of kind.Alive = sort.Alive
sort_of (kind.Piece number piece) = if piece.last then sort.LastPiece number else sort.Piece number
sort_of (kind.Acknowledgement number) = sort.Acknowledgement number

abbrev pub sight_of : Packet → PacketSight
sight_of packet = record { sender = packet.sender; receiver = packet.receiver; sort = sort_of packet.kind }

-- the packet that an event names, which stands on a bus before it
abbrev pub named_packet : Packeted → Event → Option Packet
named_packet s (Deliver bus k) = packet_at s bus k
named_packet s (Lose bus k) = packet_at s bus k
named_packet s (Repeat bus k) = packet_at s bus k
named_packet s (Run process) = None
named_packet s (Enter terminal) = None
named_packet s (Tick node) = None
named_packet s (Fail processor) = None
named_packet s (Reload processor) = None
named_packet s (Drive one) = None

-- whether a piece of this number came to an end before: its pieces come in the order of their numbers
abbrev pub has_piece : ℕ → Option End → Bool
has_piece number None = false
has_piece number (Some e) = nat_le number e.receiving.kept

abbrev pub had_come : PacketSort → Option End → Bool
had_come sort.Alive e = false
had_come (sort.Piece number) e = has_piece number e
had_come (sort.LastPiece number) e = has_piece number e
had_come (sort.Acknowledgement number) e = false

-- what becomes of a packet that a node takes in
abbrev pub taken_in : Bool → Fate
taken_in before = if before then fate.CameAgain else fate.Came

-- a processor that has stopped drops what is delivered to it, and a node what was sent before a reload, and what comes
-- of a processor that it has marked
abbrev pub taken_fate : Packeted → Packet → Fate
taken_fate s packet =
    if has_marked s.world.downs packet.receiver packet.sender then fate.Refused
    else taken_in (had_come (sort_of packet.kind) (end_at s.wires.nodes packet.receiver packet.sender))

abbrev pub current_fate : Packeted → Packet → Fate
current_fate s packet =
    if is_current_at packet (end_at s.wires.nodes packet.receiver packet.sender) then taken_fate s packet else fate.Old

abbrev pub delivered_fate : Packeted → Packet → Fate
delivered_fate s packet =
    if is_running s.world.stopped packet.receiver then current_fate s packet else fate.Dropped

abbrev pub fate_of : Packeted → Event → Packet → Fate
fate_of s (Lose bus k) packet = fate.Lost
fate_of s (Repeat bus k) packet = fate.Repeated
fate_of s (Deliver bus k) packet = delivered_fate s packet
fate_of s (Run process) packet = fate.Came
fate_of s (Enter terminal) packet = fate.Came
fate_of s (Tick node) packet = fate.Came
fate_of s (Fail processor) packet = fate.Came
fate_of s (Reload processor) packet = fate.Came
fate_of s (Drive one) packet = fate.Came

-- the words of the message of which its sender has the piece of this number outstanding
abbrev pub outstanding_at : ℕ → Option End → Option (List ℤ)
outstanding_at number None = None
outstanding_at number (Some e) = if number == e.sending.numbered then slice_get e.sending.queue 0 else None

abbrev pub words_for : PacketKind → Option End → Option (List ℤ)
words_for kind.Alive e = None
words_for (kind.Piece number piece) e = outstanding_at number e
words_for (kind.Acknowledgement number) e = None

-- the end that sent a packet, unless it was made new since
abbrev pub end_of : Packet → Option End → Option End
end_of packet None = None
end_of packet (Some e) = if is_own packet e then Some e else None

-- the message of which a packet is a piece, if its sender has that outstanding
abbrev pub message_of : Packeted → Packet → Option MessageName
message_of s packet =
    option_and_then (message_named s.site)
    (words_for packet.kind (end_of packet (end_at s.wires.nodes packet.sender packet.receiver)))

abbrev pub packet_found : Packeted → Event → Packet → Finding
packet_found s event packet =
    finding.Packet (sight_of packet) (fate_of s event packet) (message_of s packet)

-- what became of the packet that an event names, if there is one
abbrev pub named_found : Packeted → Event → Option Finding
named_found s event = option_map (packet_found s event) (named_packet s event)

abbrev pub is_last_sort : PacketSort → Bool
is_last_sort (sort.LastPiece number) = true
is_last_sort (sort.Piece number) = false
is_last_sort (sort.Acknowledgement number) = false
is_last_sort sort.Alive = false

abbrev pub is_last : Option Packet → Bool
is_last None = false
is_last (Some packet) = is_last_sort (sort_of packet.kind)

-- whether an event may change the world: a packet does so only if it is the last piece of a message, and is delivered.
-- How drives stand is no part of the world
abbrev pub may_change : Packeted → Event → Bool
may_change s (Deliver bus k) = is_last (packet_at s bus k)
may_change s (Lose bus k) = false
may_change s (Repeat bus k) = false
may_change s (Run process) = true
may_change s (Enter terminal) = true
may_change s (Tick node) = true
may_change s (Fail processor) = true
may_change s (Reload processor) = true
may_change s (Drive one) = false

-- The machine over packets, as a schedule is played on it.
use Rattle.std.specs.Prelude.{ℕ, Bool, true, false, List, Option, Some, None}
use Rattle.tal_tree.specs.declared.site.Site.{Site}
use Rattle.schedule.specs.declared.bus_name.BusName.{BusName}
use Rattle.schedule.specs.declared.bus_name.BusName.TheVariants as bus
use Rattle.schedule.specs.declared.event.Counts.{Counts}
use Rattle.schedule.specs.declared.line.Line.{Line}
pub use Rattle.agendas.specs.Sizes.{sizes_of}
use Rattle.player.specs.Lines.{packet_aimed_at}
use Rattle.player.specs.declared.player.Player.{Player}
use Rattle.player.specs.declared.stop.ProcessorStop.{ProcessorStop}
use Rattle.site_machine.specs.node_copies.specs.ShownCounts.{replies_in, writes_in}
use Rattle.packet_words.specs.declared.packet.Packet.{Packet}
use Rattle.packet_words.specs.declared.packet.PacketKind.{PacketKind}
use Rattle.packet_words.specs.declared.packet.PacketKind.TheVariants.{Alive}
use Rattle.site_machine.specs.packet_wires.specs.Idle.{is_idle}
use Rattle.site_machine.specs.packet_wires.specs.Play.{Packeted, count_on, packet_at, packeted_at_boot, play}
use Rattle.site_machine.specs.packet_wires.specs.Wires.{Wires}
use Rattle.schedule_loop.specs.Ends.{Course}
use Rattle.schedule_loop.specs.Rules.{Rules}
use Rattle.site_machine.specs.Seen.{closed_state}

-- a schedule with a stop, from the beginning of a site
abbrev pub course_on : Site → List Line → Option ProcessorStop → Course Wires
course_on site lines stop =
    record { sizes = sizes_of site; start = packeted_at_boot site; lines = lines; stop = stop }

-- the packet that is meant, by its bus and its position there
abbrev pub packet_meant : Packeted → Option (BusName × ℕ) → Option Packet
packet_meant s None = None
packet_meant s (Some place) = packet_at s place.0 place.1

-- the packet that the next event concerns where a player stands, with so many packets on buses X and Y
abbrev pub concerned : Packeted → ℕ → ℕ → Player → Option Packet
concerned s x y player = packet_meant s (packet_aimed_at player.sizes x y player.standing)

abbrev pub is_alive_kind : PacketKind → Bool
is_alive_kind Alive = true
is_alive_kind _ = false

abbrev pub is_alive : Option Packet → Bool
is_alive None = false
is_alive (Some packet) = is_alive_kind packet.kind

abbrev pub sender_of : Option Packet → ℕ
sender_of None = 0
sender_of (Some packet) = packet.sender

-- what is counted where a player stands. Where the next event concerns no packet, none is an alive one
abbrev pub counts_of : Packeted → Player → Counts
counts_of s player = record {
  x = count_on s bus.X;
  y = count_on s bus.Y;
  alive = is_alive (concerned s (count_on s bus.X) (count_on s bus.Y) player);
  sender = sender_of (concerned s (count_on s bus.X) (count_on s bus.Y) player);
  idle = is_idle s;
  writes = writes_in s.world.shown;
  replies = replies_in s.world.shown;
}

abbrev pub packet_rules : Rules Wires
packet_rules = record { play = play; counts = counts_of; is_idle = is_idle; closed = closed_state }

-- States of the machine over packets at which its rules are seen.
use Rattle.std.specs.Prelude.{ℕ, ℤ, Bool, true, false, List, [], ◌∷◌, map, Option}
use Rattle.std.specs.Option.{option_map, unwrap_or}
use Rattle.schedule.specs.declared.bus_name.BusName.TheVariants as bus
use Rattle.schedule.specs.declared.event.Event.{Event}
use Rattle.schedule.specs.declared.event.Event.TheVariants as event
use Rattle.schedule.specs.declared.bus_name.BusName.{BusName}
use Rattle.packet_words.specs.declared.packet.Incarnation.{Incarnation}
use Rattle.packet_words.specs.declared.packet.Packet.{Packet}
use Rattle.packet_words.specs.declared.packet.PacketKind.{PacketKind}
use Rattle.packet_words.specs.declared.packet.PacketKind.TheVariants as kind
use Rattle.alive_regroup.specs.declared.neighbour.Missed.TheVariants as missed
use Rattle.alive_regroup.specs.declared.neighbour.Neighbour.TheVariants.{Up}
use Rattle.alive_regroup.specs.Sets.{nobody}
use Rattle.alive_regroup.specs.Watching as watching
use Rattle.alive_regroup.specs.Watching.{changed_at}
use Rattle.letter_guards.specs.Worlds.{site, taking_over}
use Rattle.packet_wires.specs.Nodes.{end_at, never_reloaded, nodes_at_boot}
use Rattle.packet_wires.specs.Wires.{Wires, Outgoing, nothing_sent, learns}
use Rattle.packet_wires.specs.Play.{Packeted, Underway, marks}
use Rattle.packet_wires.specs.Sights.{Sight, end_of, sight}
use Rattle.packet_wires.specs.Examples.{adder_at_boot, rounds, taken_over, three_at_boot, times, up_to_checkpoint}
use Rattle.machine_states.specs.Drives.{drives_at_boot}
use Rattle.machine_states.specs.disc_device.specs.mirror.specs.declared.state.DriveState.TheVariants.{Failed, Working}

abbrev pub packet : ℕ → ℕ → PacketKind → Packet
packet sender receiver kind = record { sender = sender; receiver = receiver; incarnation = never_reloaded; kind = kind }

-- the same of nodes that were loaded again so often
abbrev pub packet_of : ℕ → ℕ → ℕ → ℕ → PacketKind → Packet
packet_of times_sender times_receiver sender receiver kind =
    record (packet sender receiver kind)
    { incarnation = record { sender = times_sender; receiver = times_receiver } }

-- acknowledgements of pieces that nobody sent: what they come to changes nothing
abbrev pub stray : ℕ → Packet
stray number = packet 0 1 (kind.Acknowledgement number)

-- the adder with three packets on bus X and one on bus Y
abbrev pub laden : Packeted
laden = record adder_at_boot {
  wires = record adder_at_boot.wires
      { x = stray 5 ∷ stray 6 ∷ stray 7 ∷ []; y = packet 1 0 kind.Alive ∷ [] };
}

-- the same where its process has two drives that work, and where the second one failed
abbrev pub two_drives : Packeted
two_drives = record laden { drives = (Working ∷ Working ∷ []) ∷ [] }

abbrev pub one_drive_failed : Packeted
one_drive_failed = record laden { drives = (Working ∷ Failed ∷ []) ∷ [] }

abbrev pub ticks : ℕ → ℕ → List Event
ticks node many = times many (event.Tick node ∷ [])

-- the first piece of the checkpoint is lost, and its sender ticks twice
abbrev pub first_piece_again : Packeted
first_piece_again = end_of (end_of adder_at_boot up_to_checkpoint) (event.Lose bus.X 0 ∷ ticks 0 2)

-- processor 0 has stopped
abbrev pub one_gone : Packeted
one_gone = end_of adder_at_boot (event.Fail 0 ∷ [])

-- three processors, in three rounds of which one was muted; and in four in which processor 0 was
abbrev pub after_three : Packeted
after_three = rounds 1 3 three_at_boot

abbrev pub first_muted : Packeted
first_muted = rounds 0 4 three_at_boot

-- to processor 0, processor 1 is down and processor 2 silent
abbrev pub two_lost : Wires
two_lost = record three_at_boot.wires {
  nodes = (learns 0 (changed_at 2 (λ one. Up false missed.More nobody))
      (learns 0 (changed_at 1 watching.neighbour_after_down) (nothing_sent three_at_boot.wires.nodes))).nodes;
}

-- so it is after processor 1 stopped, and while all run
abbrev pub second_silent : Packeted
second_silent = record three_at_boot {
  world = record three_at_boot.world { stopped = false ∷ true ∷ false ∷ [] };
  wires = two_lost;
}

abbrev pub none_stopped : Packeted
none_stopped = record three_at_boot { wires = two_lost }

-- the node of the terminals was told that processor 0 is down
abbrev pub told : Packeted
told = end_of taken_over (event.Deliver bus.X 6 ∷ [])

-- the incarnations that an end bears, and how many pieces it has numbered and kept, and whether the other node is down
-- there
abbrev pub bears : Packeted → ℕ → ℕ → Option Incarnation
bears s node other = option_map (λ e. e.incarnation) (end_at s.wires.nodes node other)

abbrev pub has_moved : Packeted → ℕ → ℕ → Option (ℕ × ℕ × Bool)
has_moved s node other =
    option_map (λ e. (e.sending.numbered, e.receiving.kept, e.down)) (end_at s.wires.nodes node other)

-- what goes out of an event, as it is seen, each packet with its bus
abbrev pub outgoing : List Outgoing → List (BusName × Sight)
outgoing out = map (λ one. (one.bus, sight one.packet)) out

-- the node 3, on which a disc takes over and a bank keeps a reply and awaits one, marks processor 2
abbrev pub takeover : Underway
takeover = marks 3 2 (record {
  site = site;
  world = taking_over;
  wires = nothing_sent (nodes_at_boot 4);
  drives = drives_at_boot site;
})

-- what the node 3 has still to send another one, whole messages
abbrev pub queued : ℕ → List (List ℤ)
queued receiver = unwrap_or (option_map (λ e. e.sending.queue) (end_at takeover.wires.nodes 3 receiver)) []

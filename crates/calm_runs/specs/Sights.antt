-- What is seen over packets of the nodes that watch each other.
use Rattle.std.specs.Prelude.{◌≡◌, ℕ, Bool, false, List, slice_get, Option, Some, None}
use Rattle.std.specs.Option.{option_map, option_and_then}
use Rattle.packet_words.specs.declared.packet.Packet.{Packet}
use Rattle.packet_words.specs.declared.packet.PacketKind.TheVariants.{Alive}
use Rattle.schedule.specs.declared.event.Counts.{Counts}
use Rattle.alive_regroup.specs.declared.neighbour.Neighbour.{Neighbour}
use Rattle.alive_regroup.specs.Watching.{Watching}
use Rattle.world_semantics.specs.World.{is_running}
use Rattle.packet_wires.specs.Nodes.{Node, never_reloaded}
use Rattle.packet_wires.specs.Play.{Packeted}
use Rattle.alive_rounds.specs.Watched.{Sight}
use Rattle.packet_rounds.specs.Played.{buses_of}

-- what a node knows of the processors
abbrev pub watch_at : List Node → ℕ → Option Watching
watch_at nodes q = option_map (λ node. node.watch) (slice_get nodes q)

abbrev pub known_of : Option Watching → ℕ → Option Neighbour
known_of watch p = option_and_then (λ w. slice_get w.neighbours p) watch

abbrev pub checks_of : Option Watching → Bool
checks_of None = false
checks_of (Some w) = w.checks

-- the I'm-alive packet from one node to another
abbrev pub alive_packet : ℕ → ℕ → Packet
alive_packet p q = record { sender = p; receiver = q; incarnation = never_reloaded; kind = Alive }

abbrev pub packets_seen : Sight Packeted Packet
packets_seen = record {
  buses = buses_of;
  runs = λ s q. is_running s.world.stopped q;
  knows = λ s q p. known_of (watch_at s.wires.nodes q) p;
  checks = λ s q. checks_of (watch_at s.wires.nodes q);
  alive = alive_packet;
}

-- what is counted of writes and replies is counted of what was shown
abbrev pub CountsOfShown : (Packeted → Counts) → Type 0
CountsOfShown counts = (s t : Packeted) → s.world.shown ≡ t.world.shown
    → ((counts s).writes ≡ (counts t).writes) × ((counts s).replies ≡ (counts t).replies)

-- How many events a schedule asks for over packets.
use Rattle.std.proofs.Common.{◌≤◌, List, Option, length}
use Rattle.tal_tree.specs.declared.site.Site.{Site}
use Rattle.schedule.specs.declared.event.Event.{Event}
use Rattle.schedule.specs.declared.line.Line.{Line}
use Rattle.player.specs.declared.player.Player.{Player}
use Rattle.player.specs.declared.stop.ProcessorStop.{ProcessorStop}
use Rattle.agendas.specs.Agendas.{Agenda}
use Rattle.packet_numbers.specs.packet_wires.specs.Play.{Packeted, packeted_at_boot}
use Rattle.packet_runs.proofs.Played.{played}
use Rattle.packet_runs.specs.Runs.{course_on, packet_rules, sizes_of}
use Rattle.line_lengths.specs.schedule_loop.specs.Ends.{Plays}
use Rattle.line_lengths.specs.schedule_loop.specs.Rules.{IsPlayBy, sight_of}
use Rattle.line_lengths.specs.Lengths.{KeepsTo}
use Rattle.line_lengths.proofs.Lengths as any_machine
use Rattle.packet_lengths.specs.Lengths.{both_buses, most_events}
use Rattle.packet_lengths.proofs.Buses.{played-few}

keeps : (site : Site) (lines : List Line) (stop : Option ProcessorStop) (events : List Event) (agenda : Agenda)
    (s : Packeted) → Plays packet_rules (course_on site lines stop) events agenda s → (player : Player)
    → KeepsTo both_buses (sight_of packet_rules s player)
keeps site lines stop events agenda s plays player =
    played-few site events s (played {lines = lines} {stop = stop} plays)

pub so-many : (site : Site) (lines : List Line) (stop : Option ProcessorStop) (events : List Event) (agenda : Agenda)
    (s : Packeted)
    → Plays packet_rules (course_on site lines stop) events agenda s → length events ≤ most_events site lines stop
so-many site lines stop =
    any_machine.so-many (sizes_of site) both_buses (sight_of packet_rules) (IsPlayBy packet_rules)
    (packeted_at_boot site) lines stop (keeps site lines stop)

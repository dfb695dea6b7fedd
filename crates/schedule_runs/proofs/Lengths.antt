-- How many events a schedule asks for over whole messages.
use Rattle.std.proofs.Common.{◌≤◌, List, Option, length, arith}
use Rattle.tal_tree.specs.declared.site.Site.{Site}
use Rattle.schedule.specs.declared.event.Event.{Event}
use Rattle.schedule.specs.declared.line.Line.{Line}
use Rattle.player.specs.declared.player.Player.{Player}
use Rattle.player.specs.declared.stop.ProcessorStop.{ProcessorStop}
use Rattle.pair_machine.specs.message_wires.specs.Play.{MachineState, machine_at_boot}
use Rattle.schedule_loop.specs.Ends.{Plays}
use Rattle.schedule_loop.specs.Rules.{IsPlayBy, sight_of}
use Rattle.line_lengths.specs.Lengths.{KeepsTo}
use Rattle.line_lengths.proofs.Lengths as any_machine
use Rattle.schedule_runs.specs.Lengths.{most_events, one_bus}
use Rattle.schedule_runs.specs.Rules.{pair_rules}
use Rattle.schedule_runs.specs.Runs.{Agenda, course_on, sizes_of}
use Rattle.schedule_runs.proofs.Buses.{played-few}
use Rattle.schedule_runs.proofs.Played.{played}

keeps : (site : Site) (lines : List Line) (stop : Option ProcessorStop) (events : List Event) (agenda : Agenda)
    (s : MachineState) → Plays pair_rules (course_on site lines stop) events agenda s → (player : Player)
    → KeepsTo one_bus (sight_of pair_rules s player)
keeps site lines stop events agenda s plays player =
    (played-few site events s (played {lines = lines} {stop = stop} plays), omega arith)

pub so-many : (site : Site) (lines : List Line) (stop : Option ProcessorStop) (events : List Event) (agenda : Agenda)
    (s : MachineState)
    → Plays pair_rules (course_on site lines stop) events agenda s → length events ≤ most_events site lines stop
so-many site lines stop =
    any_machine.so-many (sizes_of site) one_bus (sight_of pair_rules) (IsPlayBy pair_rules) (machine_at_boot site)
    lines stop (keeps site lines stop)

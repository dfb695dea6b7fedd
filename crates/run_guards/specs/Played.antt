-- Runs of a disc that the guards name.
use Rattle.std.specs.Prelude.{List, [], ◌∷◌, Option, Some}
use Rattle.schedule.specs.declared.event.Event.{Event}
use Rattle.schedule.specs.declared.event.Event.TheVariants as event
use Rattle.schedule.specs.declared.line.Line.{Line}
use Rattle.schedule.specs.declared.line.Line.TheVariants.{One}
use Rattle.player.specs.declared.stop.ProcessorStop.{ProcessorStop}
use Rattle.world_semantics.specs.Examples.{disc_site}
use Rattle.message_wires.specs.Examples.{end_of}
use Rattle.message_wires.specs.Play.{MachineState, machine_at_boot}

-- a run of the disc, which can do nothing at the beginning, and an entry at its terminal
abbrev pub skipped_first : List Line
skipped_first = One (event.Run 0) ∷ One (event.Enter 0) ∷ []

-- the stop of processor 0 before the event that one precedes
abbrev pub stop_of_first : Option ProcessorStop
stop_of_first = Some (record { processor = 0; after = 1 })

-- the stops of both processors
abbrev pub both_stop : List Line
both_stop = One (event.Fail 1) ∷ One (event.Fail 0) ∷ []

-- the state of the disc's site after these events
abbrev pub disc_after : List Event → MachineState
disc_after events = end_of (machine_at_boot disc_site) events

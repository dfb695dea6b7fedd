-- The takeover of the adder over whole messages, to its idle end, and the run in which its first processor is loaded
-- again and its second one stops.
use Rattle.std.specs.Prelude.{List, [], ◌∷◌, ◌++◌}
use Rattle.schedule.specs.declared.event.Event.{Event}
use Rattle.world_semantics.specs.Examples.{run}
use Rattle.message_wires.specs.Examples.{adder_at_boot, after_checkpoint, end_of, renewal, second_takeover}
use Rattle.message_wires.specs.Examples.{until_reload, up_to_checkpoint}
use Rattle.message_wires.specs.Play.{MachineState}

-- the events of the takeover, and one step more, to READUPDATE
abbrev pub takeover_to_the_end : List Event
takeover_to_the_end = (up_to_checkpoint ++ after_checkpoint) ++ run ∷ []

abbrev pub adder_end : MachineState
adder_end = end_of adder_at_boot takeover_to_the_end

-- the events of the reload and of both takeovers, and one step more
abbrev pub reload_to_the_end : List Event
reload_to_the_end = (until_reload ++ renewal ++ second_takeover) ++ run ∷ []

abbrev pub reload_end : MachineState
reload_end = end_of adder_at_boot reload_to_the_end

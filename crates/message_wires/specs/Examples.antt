-- Worked runs of the adder over whole messages: what is on the bus after each event, and what is owed at the end.
use Rattle.std.specs.Prelude.{ℕ, pos, List, [], ◌∷◌, ◌++◌, map}
use Rattle.schedule.specs.declared.bus_name.BusName.TheVariants as bus
use Rattle.schedule.specs.declared.event.Event.{Event}
use Rattle.schedule.specs.declared.event.Event.TheVariants as event
use Rattle.computed_changes.specs.world_semantics.specs.Examples.{adder_for, delivery, run}
use Rattle.computed_changes.specs.world_semantics.specs.Messages.{Message, Asking, Replying, Checkpointing, Taking}
use Rattle.machine_states.specs.States.{Played, Makes, Skips, Would}
use Rattle.message_wires.specs.Wires.{Sent, Wires}
use Rattle.message_wires.specs.Play.{MachineState, machine_at_boot, play}

-- of what sort a message is
pub data Sort : Type 0 where
  Request : Sort
  Reply : Sort
  Checkpoint : Sort
  Taken : Sort

abbrev pub sort_of : Message → Sort
sort_of (Asking request) = Request
sort_of (Replying reply) = Reply
sort_of (Checkpointing message) = Checkpoint
sort_of (Taking taken) = Taken

-- a packet as it is seen on the bus
pub record Sight : Type 0 where
  pub sender : ℕ
  pub receiver : ℕ
  pub sort : Sort

abbrev pub sight : Sent → Sight
sight one = record { sender = one.letter.sender; receiver = one.letter.receiver; sort = sort_of one.letter.message }

abbrev pub state_after : Played Wires → MachineState → MachineState
state_after (Makes next) s = next
state_after Skips s = s
state_after (Would harm) s = s

abbrev pub end_of : MachineState → List Event → MachineState
end_of s [] = s
end_of s (event ∷ events) = end_of (state_after (play s event) s) events

-- what is on the bus after each event
abbrev pub buses_from : MachineState → List Event → List (List Sight)
buses_from s [] = []
buses_from s (event ∷ events) =
    map sight (state_after (play s event) s).wires.bus ∷ buses_from (state_after (play s event) s) events

-- the adder of world_semantics in the processors 0 and 1, and a terminal that sends it 5
abbrev pub adder_at_boot : MachineState
adder_at_boot = machine_at_boot (adder_for (pos 5 ∷ []))

abbrev pub asks : ℕ → Sight
asks processor = record { sender = 16; receiver = processor; sort = Request }

abbrev pub answers : ℕ → Sight
answers processor = record { sender = processor; receiver = 16; sort = Reply }

abbrev pub checkpoint : Sight
checkpoint = record { sender = 0; receiver = 1; sort = Checkpoint }

abbrev pub told : Sight
told = record { sender = 1; receiver = 0; sort = Taken }

-- Up to the checkpoint: the request is entered, the program comes to READUPDATE, the request is delivered, taken and
-- added, and the checkpoint is sent
abbrev pub up_to_checkpoint : List Event
up_to_checkpoint = event.Enter 0 ∷ run ∷ run ∷ run ∷ delivery ∷ run ∷ run ∷ run ∷ run ∷ []

abbrev pub buses_to_checkpoint : List (List Sight)
buses_to_checkpoint =
    (asks 0 ∷ []) ∷ (asks 0 ∷ []) ∷ (asks 0 ∷ []) ∷ (asks 0 ∷ []) ∷ [] ∷ [] ∷ [] ∷ [] ∷ (checkpoint ∷ []) ∷ []

-- The takeover: the checkpoint is taken, the first copy passes its checkpoint and answers, and its processor stops.
-- Both nodes that run mark it: the second copy takes over, and the node of the terminals sends the request to it, and
-- drops the reply of the node that it marked. The second copy answers anew; the request comes, whose kept reply is sent
-- again; one reply is printed, and the other one isn't awaited
abbrev pub until_dropped : List Event
until_dropped = delivery ∷ delivery ∷ run ∷ run ∷ event.Fail 0 ∷ event.Tick 1 ∷ event.Tick 16 ∷ delivery ∷ []

abbrev pub after_checkpoint : List Event
after_checkpoint = until_dropped ++ run ∷ delivery ∷ delivery ∷ delivery ∷ []

abbrev pub buses_of_takeover : List (List Sight)
buses_of_takeover =
    (told ∷ []) ∷ [] ∷ [] ∷ (answers 0 ∷ []) ∷ (answers 0 ∷ []) ∷ (answers 0 ∷ []) ∷ (answers 0 ∷ asks 1 ∷ [])
    ∷ (asks 1 ∷ [])
    ∷ (asks 1 ∷ answers 1 ∷ []) ∷ (answers 1 ∷ answers 1 ∷ []) ∷ (answers 1 ∷ []) ∷ [] ∷ []

-- The reload: the request is on the bus when the adder's first processor stops. Both nodes that run mark it: the second
-- copy takes over, and the node of the terminals sends the request to it. Then the first processor is loaded again
abbrev pub until_reload : List Event
until_reload = event.Enter 0 ∷ event.Fail 0 ∷ event.Tick 1 ∷ event.Tick 16 ∷ event.Reload 0 ∷ []

abbrev pub buses_to_reload : List (List Sight)
buses_to_reload =
    (asks 0 ∷ []) ∷ (asks 0 ∷ []) ∷ (asks 0 ∷ []) ∷ (asks 0 ∷ asks 1 ∷ []) ∷ (asks 0 ∷ asks 1 ∷ []) ∷ []

-- what the second copy sends to the first one, and that it was taken
abbrev pub everything : Sight
everything = record { sender = 1; receiver = 0; sort = Checkpoint }

abbrev pub everything_told : Sight
everything_told = record { sender = 0; receiver = 1; sort = Taken }

-- the old request is dropped, and the first copy gets everything
abbrev pub renewal : List Event
renewal = delivery ∷ run ∷ event.Deliver bus.X 1 ∷ event.Deliver bus.X 1 ∷ run ∷ []

abbrev pub buses_of_renewal : List (List Sight)
buses_of_renewal =
    (asks 1 ∷ []) ∷ (asks 1 ∷ everything ∷ []) ∷ (asks 1 ∷ everything_told ∷ []) ∷ (asks 1 ∷ []) ∷ (asks 1 ∷ []) ∷ []

-- then the second processor stops. The first copy takes over in its turn, is asked, and answers, and its reply is
-- printed
abbrev pub second_takeover : List Event
second_takeover =
    event.Fail 1 ∷ event.Tick 0 ∷ event.Tick 16 ∷ run ∷ run ∷ run ∷ event.Deliver bus.X 1 ∷ run ∷ run ∷ run ∷ run
    ∷ run ∷ event.Deliver bus.X 1 ∷ []

abbrev pub adder_reloaded : MachineState
adder_reloaded = end_of adder_at_boot until_reload

abbrev pub adder_renewed : MachineState
adder_renewed = end_of adder_reloaded renewal

-- Worked runs of the adder over packets: which packets are on the buses after each event.
use Rattle.std.specs.Prelude.{ℕ, zero, suc, ◌==◌, pos, if◌then◌else◌, List, [], ◌∷◌, ◌++◌, Option}
use Rattle.std.specs.Prelude.{Some, None}
use Rattle.schedule.specs.declared.bus_name.BusName.{BusName}
use Rattle.schedule.specs.declared.bus_name.BusName.TheVariants as bus
use Rattle.schedule.specs.declared.event.Event.{Event}
use Rattle.schedule.specs.declared.event.Event.TheVariants as event
use Rattle.packet_words.specs.declared.packet.Packet.{Packet}
use Rattle.message_layout.specs.world_semantics.specs.Examples.{adder_for, run}
use Rattle.packet_wires.specs.Play.{Packeted, packeted_at_boot, play}
use Rattle.packet_wires.specs.Sights.{Sight, Buses, alive, piece, last, acknowledged, only_x, none, state_after, end_of}

-- the adder in the processors 0 and 1, and a terminal that sends it 5
abbrev pub adder_at_boot : Packeted
adder_at_boot = packeted_at_boot (adder_for (pos 5 ∷ []))

-- the oldest packet on a bus is delivered
abbrev pub next_x : Event
next_x = event.Deliver bus.X 0

abbrev pub next_y : Event
next_y = event.Deliver bus.Y 0

abbrev pub times : ℕ → List Event → List Event
times zero events = []
times (suc more) events = events ++ times more events

-- A request is served: it goes in one piece, and is acknowledged. The program takes it, adds, and sends its checkpoint,
-- which goes in three pieces, each after the one before it was acknowledged. The backup acknowledges the last piece,
-- and then tells that it took the checkpoint. The reply goes in one piece

abbrev pub up_to_checkpoint : List Event
up_to_checkpoint = event.Enter 0 ∷ run ∷ run ∷ run ∷ next_x ∷ next_x ∷ run ∷ run ∷ run ∷ run ∷ []

abbrev pub buses_to_checkpoint : List Buses
buses_to_checkpoint =
    only_x (last 16 0 1 ∷ [])
    ∷ only_x (last 16 0 1 ∷ [])
    ∷ only_x (last 16 0 1 ∷ [])
    ∷ only_x (last 16 0 1 ∷ [])
    ∷ only_x (acknowledged 0 16 1 ∷ [])
    ∷ none
    ∷ none
    ∷ none
    ∷ none
    ∷ only_x (piece 0 1 1 ∷ [])
    ∷ []

abbrev pub up_to_reply : List Event
up_to_reply = times 8 (next_x ∷ []) ++ run ∷ run ∷ next_x ∷ next_x ∷ run ∷ []

abbrev pub buses_to_reply : List Buses
buses_to_reply =
    only_x (acknowledged 1 0 1 ∷ [])
    ∷ only_x (piece 0 1 2 ∷ [])
    ∷ only_x (acknowledged 1 0 2 ∷ [])
    ∷ only_x (last 0 1 3 ∷ [])
    ∷ only_x (acknowledged 1 0 3 ∷ last 1 0 1 ∷ [])
    ∷ only_x (last 1 0 1 ∷ [])
    ∷ only_x (acknowledged 0 1 1 ∷ [])
    ∷ none
    ∷ none
    ∷ only_x (last 0 16 1 ∷ [])
    ∷ only_x (acknowledged 16 0 1 ∷ [])
    ∷ none
    ∷ none
    ∷ []

abbrev pub served : Packeted
served = end_of (end_of adder_at_boot up_to_checkpoint) up_to_reply

-- A piece is lost: its sender sends it again at its second tick over bus Y, and at its third one over bus X, each time
-- with the number that it had. What comes second is acknowledged again, over the bus on which it came, and hands
-- nothing over; the second acknowledgement ends nothing

abbrev pub lost_piece : List Event
lost_piece =
    event.Enter 0 ∷ event.Lose bus.X 0 ∷ event.Tick 16 ∷ event.Tick 16 ∷ next_y ∷ event.Tick 16 ∷ next_x ∷ next_y
    ∷ next_x ∷ event.Tick 16 ∷ []

abbrev pub buses_of_lost : List Buses
buses_of_lost =
    only_x (last 16 0 1 ∷ [])
    ∷ none
    ∷ none
    ∷ record { x = []; y = last 16 0 1 ∷ [] }
    ∷ record { x = []; y = acknowledged 0 16 1 ∷ [] }
    ∷ record { x = last 16 0 1 ∷ []; y = acknowledged 0 16 1 ∷ [] }
    ∷ record { x = acknowledged 0 16 1 ∷ []; y = acknowledged 0 16 1 ∷ [] }
    ∷ only_x (acknowledged 0 16 1 ∷ [])
    ∷ none
    ∷ none
    ∷ []

-- A processor stops between the pieces of its checkpoint: two of three came. Processor 1 hears nothing of processor 0.
-- At its second tick its check misses 0 for the first time, and at its fourth one again: it reports, pulls the line,
-- marks 0, takes over at the beginning, and tells the node of the terminals, which marks 0 and asks processor 1

abbrev pub before_third_piece : Packeted
before_third_piece = end_of (end_of adder_at_boot up_to_checkpoint) (times 4 (next_x ∷ []) ++ event.Fail 0 ∷ [])

abbrev pub ticks_alone : List Event
ticks_alone = event.Tick 1 ∷ event.Tick 1 ∷ event.Tick 1 ∷ event.Tick 1 ∷ []

-- as many I'm-alive packets from processor 1 to processor 0
abbrev pub lives : ℕ → List Sight
lives zero = []
lives (suc more) = alive 1 0 ∷ lives more

-- the third piece of processor 0 still stands on bus X. At the fourth tick a report to 0 is pushed before 0 is marked,
-- and two messages go to the terminals' node
abbrev pub buses_alone : List Buses
buses_alone =
    record { x = last 0 1 3 ∷ lives 1; y = lives 1 }
    ∷ record { x = last 0 1 3 ∷ lives 2; y = lives 2 }
    ∷ record { x = last 0 1 3 ∷ lives 3; y = lives 3 }
    ∷ record { x = last 0 1 3 ∷ lives 4 ++ last 1 0 1 ∷ last 1 16 1 ∷ []; y = lives 4 }
    ∷ []

abbrev pub taken_over : Packeted
taken_over = end_of before_third_piece ticks_alone

-- what is on the buses is delivered, and the process runs
abbrev pub after_takeover : List Event
after_takeover = times 9 (next_x ∷ []) ++ times 12 (run ∷ []) ++ times 8 (next_x ∷ []) ++ run ∷ []

-- The node of the terminals hears that processor 0 is down, and asks processor 1; then processor 0 is loaded again.
-- What was sent from it and to it before is still on bus X

abbrev pub loaded_0 : Packeted
loaded_0 = end_of taken_over (event.Deliver bus.X 6 ∷ event.Reload 0 ∷ [])

-- the third piece of processor 0, four I'm-alive packets to it and the report to it come, and nothing answers them
abbrev pub without_old : Packeted
without_old = end_of loaded_0 (times 6 (next_x ∷ []))

-- the process runs in processor 1, and sends all that it has over the new channel
abbrev pub renewing : Packeted
renewing = end_of without_old (run ∷ [])

-- it came, and that was told
abbrev pub renewed : Packeted
renewed = end_of renewing (times 12 (next_x ∷ []))

-- Three processors, of which one is muted: all its packets are lost. The others report it, and processor 0 pulls its
-- line when it has the report of processor 2

abbrev pub three_at_boot : Packeted
three_at_boot = packeted_at_boot (record (adder_for (pos 5 ∷ [])) { processors = 3 })

-- the oldest packet of a bus is delivered, or lost where this processor sent it
abbrev pub aimed : ℕ → BusName → Packet → Event
aimed muted bus packet = if packet.sender == muted then event.Lose bus 0 else event.Deliver bus 0

-- the oldest packet of bus X, or that of bus Y where none is on bus X
abbrev pub oldest : ℕ → List Packet → List Packet → Option Event
oldest muted (packet ∷ rest) y = Some (aimed muted bus.X packet)
oldest muted [] (packet ∷ rest) = Some (aimed muted bus.Y packet)
oldest muted [] [] = None

abbrev pub played_if : Packeted → Option Event → Packeted
played_if s None = s
played_if s (Some event) = state_after (play s event) s

-- at most so many packets, one after the other
abbrev pub drained : ℕ → ℕ → Packeted → Packeted
drained muted zero s = s
drained muted (suc more) s = drained muted more (played_if s (oldest muted s.wires.x s.wires.y))

-- rounds in which all three tick, and then the buses are drained
abbrev pub rounds : ℕ → ℕ → Packeted → Packeted
rounds muted zero s = s
rounds muted (suc more) s =
    rounds muted more (drained muted 30 (end_of s (event.Tick 0 ∷ event.Tick 1 ∷ event.Tick 2 ∷ [])))

abbrev pub after_four : Packeted
after_four = rounds 1 4 three_at_boot

-- the fifth tick of processor 0
abbrev pub held : Packeted
held = end_of after_four (event.Tick 0 ∷ [])

-- I'm-alive packets to both, the report to 1 that is sent again, and the messages that 1 is down
abbrev pub buses_held : Buses
buses_held = record {
  x = alive 0 1 ∷ alive 0 2 ∷ last 0 2 2 ∷ last 0 16 1 ∷ [];
  y = alive 0 1 ∷ alive 0 2 ∷ last 0 1 1 ∷ [];
}

-- the message that 1 is down stands twice, and both come to processor 2: the second one is acknowledged as the first
-- one, and changes nothing else
abbrev pub down_twice : List Event
down_twice = event.Repeat bus.X 2 ∷ event.Deliver bus.X 2 ∷ event.Deliver bus.X 3 ∷ []

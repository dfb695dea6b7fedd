-- What each event makes of a state, the world with its wires, in the machine over whole messages.
use Rattle.std.specs.Prelude.{ℕ, zero, suc, ◌+◌, ◌&&◌, Bool, true, false, not, if◌then◌else◌, List, ◌++◌, length}
use Rattle.std.specs.Prelude.{slice_get, Option, Some, None}
use Rattle.std.specs.List.{list_any}
use Rattle.tal_tree.specs.declared.site.Site.{Site}
use Rattle.schedule.specs.declared.bus_name.BusName.{BusName}
use Rattle.schedule.specs.declared.bus_name.BusName.TheVariants as bus
use Rattle.schedule.specs.declared.event.Event.{Event}
use Rattle.schedule.specs.declared.event.Event.TheVariants.{Run, Enter, Deliver, Lose, Repeat, Tick, Fail, Reload}
use Rattle.schedule.specs.declared.event.Event.TheVariants.{Drive}
use Rattle.computed_changes.specs.world_semantics.specs.World.{boot, is_running, has_marked}
use Rattle.computed_changes.specs.world_semantics.specs.Running.{Done, run_done}
use Rattle.computed_changes.specs.Entered.{enter_done}
use Rattle.computed_changes.specs.Handed.{handed_done}
use Rattle.computed_changes.specs.Stopped.{stop_done, down_done, reload_done}
use Rattle.letters.specs.Routes.{Letter, letters_of}
use Rattle.letters.specs.Again.{sent_again}
use Rattle.machine_states.specs.Drives.{drives_at_boot}
use Rattle.machine_states.specs.States.{State, Played, Makes, Skips, Would, SecondStop, drive_played}
use Rattle.message_wires.specs.Wires.{Sent, Wires, wires_at_boot, wires_after_posts, paid, paid_between, without_packet}
use Rattle.message_wires.specs.Wires.{repeated_packet, wires_again, is_current, wires_after_reload}

-- a state of the machine over whole messages
abbrev pub MachineState : Type 0
MachineState = State Wires

abbrev pub machine_at_boot : Site → MachineState
machine_at_boot site =
    record {
      site = site;
      world = boot site;
      wires = wires_at_boot site.processors;
      drives = drives_at_boot site;
    }

-- Changes of the world

-- the state after a change of its world: what was sent is posted, by the routes of the world after the change
abbrev pub after_done : MachineState → Done → MachineState
after_done s done =
    record s { world = done.world; wires = wires_after_posts (letters_of s.site done.world done.sendings) s.wires }

abbrev pub made_by : MachineState → Option Done → Played Wires
made_by s None = Skips
made_by s (Some done) = Makes (after_done s done)

-- the state after a change, if one is made
abbrev pub after_any : MachineState → Option Done → MachineState
after_any s None = s
after_any s (Some done) = after_done s done

-- Packets

-- the letter of a packet is handed over at its receiver, and owed no more
abbrev pub state_after_handing : Sent → MachineState → MachineState
state_after_handing packet s =
    after_any (record s { wires = paid packet.number s.wires })
    (handed_done s.site packet.letter.receiver packet.letter.message s.world)

-- whether the receiver of a letter admits it, if it isn't old: it runs, and hasn't marked the sender
abbrev pub is_admitted : MachineState → Letter → Bool
is_admitted s letter =
    is_running s.world.stopped letter.receiver && not (has_marked s.world.downs letter.receiver letter.sender)

abbrev pub state_after_receiving : Sent → MachineState → MachineState
state_after_receiving packet s =
    if is_current s.wires.before packet && is_admitted s packet.letter then state_after_handing packet s else s

-- a packet is taken off the bus, and what it carries comes in or is dropped
abbrev pub deliver_played : ℕ → MachineState → Option Sent → Played Wires
deliver_played k s None = Skips
deliver_played k s (Some packet) = Makes (state_after_receiving packet (record s { wires = without_packet k s.wires }))

abbrev pub lose_played : ℕ → MachineState → Option Sent → Played Wires
lose_played k s None = Skips
lose_played k s (Some packet) = Makes (record s { wires = without_packet k s.wires })

abbrev pub repeat_played : MachineState → Option Sent → Played Wires
repeat_played s None = Skips
repeat_played s (Some packet) = Makes (record s { wires = repeated_packet packet s.wires })

-- Stops and ticks

-- whether one of the processors has stopped
abbrev pub some_has_stopped : List Bool → Bool
some_has_stopped stopped = list_any (λ one. one) stopped

abbrev pub stop_played : ℕ → MachineState → Option Done → Played Wires
stop_played processor s None = Would (SecondStop processor)
stop_played processor s (Some done) = Makes (after_done s done)

-- a processor that hasn't stopped stops, but not in a world that isn't whole
abbrev pub fail_played : ℕ → MachineState → Option Bool → Played Wires
fail_played processor s (Some false) = stop_played processor s (stop_done processor s.world)
fail_played processor s (Some true) = Skips
fail_played processor s None = Skips

-- a processor is loaded again: nothing is sent then, and what was sent from it or to it before comes no more
abbrev pub reload_played : ℕ → MachineState → Option Done → Played Wires
reload_played processor s None = Skips
reload_played processor s (Some done) =
    Makes (record s { world = done.world; wires = wires_after_reload processor s.wires })

-- the state after a node marked a processor: what was owed between both is so no more, and what the mark sends and
-- sends again is posted
abbrev pub after_marked : ℕ → ℕ → MachineState → Done → MachineState
after_marked node processor s done = record s {
  world = done.world;
  wires =
      wires_after_posts (letters_of s.site done.world
      (done.sendings ++ sent_again s.site s.world done.world node processor))
      (paid_between node processor s.wires);
}

abbrev pub marked_by : ℕ → ℕ → MachineState → Option Done → MachineState
marked_by node processor s None = s
marked_by node processor s (Some done) = after_marked node processor s done

-- a node marks each of so many processors, from one on, that has stopped and isn't marked yet
abbrev pub marks_from : ℕ → ℕ → ℕ → MachineState → MachineState
marks_from node processor zero s = s
marks_from node processor (suc more) s =
    marks_from node (processor + 1) more (marked_by node processor s (down_done node processor s.world))

-- a tick of a node: it marks, and then puts on the bus again what it sent, that is owed and not on the bus
abbrev pub state_after_tick : ℕ → MachineState → MachineState
state_after_tick node s = record s { wires = wires_again s.world.stopped node s.wires }

abbrev pub tick_played : ℕ → MachineState → Played Wires
tick_played node s =
    if is_running s.world.stopped node then Makes
    (state_after_tick node (marks_from node 0 (length s.world.stopped) s)) else Skips

-- Events

-- the packet at a position of a bus: all are on bus X
abbrev pub packet_at : MachineState → BusName → ℕ → Option Sent
packet_at s bus.X k = slice_get s.wires.bus k
packet_at s bus.Y k = None

-- what an event makes of a state
abbrev pub play : MachineState → Event → Played Wires
play s (Run number) = made_by s (run_done s.site number s.world)
play s (Enter terminal) = made_by s (enter_done s.site terminal s.world)
play s (Deliver bus k) = deliver_played k s (packet_at s bus k)
play s (Lose bus k) = lose_played k s (packet_at s bus k)
play s (Repeat bus k) = repeat_played s (packet_at s bus k)
play s (Tick node) = tick_played node s
play s (Fail processor) = fail_played processor s (slice_get s.world.stopped processor)
play s (Reload processor) = reload_played processor s (reload_done s.site processor s.world)
play s (Drive event) = drive_played event s

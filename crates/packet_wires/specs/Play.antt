-- What each event makes of a state in the machine over packets: the world of copies, with both buses and the nodes
-- under it. It takes its packet off a bus; then it changes world and nodes, which see no bus; and when it is over, what
-- it sent is put on the buses.
use Rattle.std.specs.Prelude.{◌≤◌, ℕ, ◌+◌, ◌&&◌, Bool, true, false, ℤ, if◌then◌else◌, List, [], ◌++◌, length, slice_get}
use Rattle.std.specs.Prelude.{Option, Some, None}
use Rattle.std.specs.Option.{option_and_then, option_map}
use Rattle.tal_tree.specs.declared.site.Site.{Site}
use Rattle.schedule.specs.declared.event.Event.{Event}
use Rattle.schedule.specs.declared.event.Event.TheVariants.{Run, Enter, Deliver, Lose, Repeat, Tick, Fail, Reload}
use Rattle.schedule.specs.declared.event.Event.TheVariants.{Drive}
use Rattle.packet_words.specs.declared.packet.Packet.{Packet}
use Rattle.packet_words.specs.declared.packet.PacketKind.{PacketKind}
use Rattle.schedule.specs.declared.bus_name.BusName.{BusName}
use Rattle.link_control.specs.Ends.{End, handed_by_packet, is_current}
use Rattle.alive_regroup.specs.Watching as watching
use Rattle.alive_regroup.specs.Watching.{changed_at}
use Rattle.message_layout.specs.world_semantics.specs.World.{boot, is_running}
use Rattle.message_layout.specs.world_semantics.specs.Running.{Done, run_done}
use Rattle.message_wires.specs.computed_changes.specs.Changed.{change_done}
use Rattle.message_wires.specs.computed_changes.specs.Entered.{enter_done}
use Rattle.message_wires.specs.computed_changes.specs.Handed.{handed_done}
use Rattle.message_wires.specs.computed_changes.specs.Stopped.{stop_done, down_done, reload_done}
use Rattle.message_wires.specs.letters.specs.Routes.{letters_of}
use Rattle.message_wires.specs.letters.specs.Again.{sent_again}
use Rattle.message_wires.specs.machine_states.specs.Drives.{drives_at_boot}
use Rattle.message_wires.specs.machine_states.specs.States.{State, Played, Makes, Skips, Would}
use Rattle.message_wires.specs.machine_states.specs.States.{SecondStop, drive_played}
use Rattle.message_layout.specs.Messages.{NodeMessage, Carrying, Changing, Reporting, Declaring}
use Rattle.message_layout.specs.Reading.{understood}
use Rattle.packet_wires.specs.Nodes.{end_at}
use Rattle.packet_wires.specs.Lines.{line_pulled}
use Rattle.packet_wires.specs.Parcels.{parcels_of}
use Rattle.packet_wires.specs.Wires.{Wires, Outgoing, Midst, nothing_sent, wires_at_boot, on_bus}
use Rattle.packet_wires.specs.Wires.{without_packet, packets_over, with_sent, goes_over, all_posted}
use Rattle.packet_wires.specs.Wires.{midst_after_arrival, learns}
use Rattle.packet_wires.specs.Wires.{midst_after_tick, cut_off, declares, loaded_again}
use Rattle.packet_words.specs.gd_words.specs.declared.limits.TheConstants.{MOST_PACKETS}

-- a state over packets
abbrev pub Packeted : Type 0
Packeted = State Wires

abbrev pub packeted_at_boot : Site → Packeted
packeted_at_boot site = record {
  site = site;
  world = boot site;
  wires = wires_at_boot site.processors;
  drives = drives_at_boot site;
}

-- a state in the midst of an event
abbrev pub Underway : Type 0
Underway = State Midst

-- an event begins
abbrev pub underway : Packeted → Underway
underway s = record { site = s.site; world = s.world; wires = nothing_sent s.wires.nodes; drives = s.drives }

-- an event is over: what it sent is put on the buses
abbrev pub over : Wires → Underway → Packeted
over wires s = record { site = s.site; world = s.world; wires = with_sent s.wires wires; drives = s.drives }

-- Changes of the world

-- the state after a change of its world: what the change sent is posted by the routes that the world then has
abbrev pub after_done : Underway → Done → Underway
after_done s done = record s {
  world = done.world;
  wires = all_posted done.world.stopped (parcels_of done.world (letters_of s.site done.world done.sendings)) s.wires;
}

abbrev pub made_by : Underway → Option Done → Played Midst
made_by s None = Skips
made_by s (Some done) = Makes (after_done s done)

-- the same where it may be that nothing changes
abbrev pub after_any : Underway → Option Done → Underway
after_any s None = s
after_any s (Some done) = after_done s done

-- Marks

-- the state after a node marked a processor: it cuts that one off, and then it posts what the mark sends, and what it
-- has to send again
abbrev pub after_marked : ℕ → ℕ → Underway → Done → Underway
after_marked node processor s done = record s {
  world = done.world;
  wires =
      all_posted done.world.stopped
      (parcels_of done.world (letters_of s.site done.world
      (done.sendings ++ sent_again s.site s.world done.world node processor)))
      (cut_off node processor s.wires);
}

abbrev pub marked_by : ℕ → ℕ → Underway → Option Done → Underway
marked_by node processor s None = s
marked_by node processor s (Some done) = after_marked node processor s done

-- a node marks a processor that has stopped, unless it has marked it before
abbrev pub marks : ℕ → ℕ → Underway → Underway
marks node processor s = marked_by node processor s (down_done node processor s.world)

-- Packets that come

-- a message is handed over at a node: it changes the world; or the copy that is there makes a checkpoint whole by its
-- own table, and that changes the world; or the node notes the report of another one, or it marks the processor that is
-- down
abbrev pub handed : ℕ → NodeMessage → Underway → Underway
handed node (Carrying message) s = after_any s (handed_done s.site node message s.world)
handed node (Changing change) s = after_any s (change_done s.site node change s.world)
handed node (Reporting from silent) s =
    record s { wires = learns node (changed_at from (watching.neighbour_after_report silent)) s.wires }
handed node (Declaring processor) s = marks node processor s

abbrev pub handed_any : ℕ → Option NodeMessage → Underway → Underway
handed_any node None s = s
handed_any node (Some message) s = handed node message s

-- the words of a whole message are handed over for what the site takes them for
abbrev pub handed_words : ℕ → Option (List ℤ) → Underway → Underway
handed_words node None s = s
handed_words node (Some words) s = handed_any node (understood s.site words) s

-- the message that is whole as a packet comes to an end
abbrev pub message_at_end : Packet → Option End → Option (List ℤ)
message_at_end packet e = option_and_then (handed_by_packet packet) e

-- the receiver takes a packet in, and is handed the message that is whole with it
abbrev pub received : BusName → Packet → Underway → Underway
received name packet s =
    handed_words packet.receiver (message_at_end packet (end_at s.wires.nodes packet.receiver packet.sender))
    (record s { wires = midst_after_arrival name packet s.wires })

-- whether a packet bears the incarnations that an end knows, where there is one
abbrev pub is_current_at : Packet → Option End → Bool
is_current_at packet None = false
is_current_at packet (Some e) = is_current packet e

-- whether a packet comes in at its receiver: that runs, and the packet was sent since its sender and its receiver were
-- loaded last
abbrev pub comes_in : Packet → Underway → Bool
comes_in packet s =
    is_running s.world.stopped packet.receiver
    && is_current_at packet (end_at s.wires.nodes packet.receiver packet.sender)

-- a packet that is delivered comes in at its receiver, or is dropped there
abbrev pub deliver_acted : BusName → Underway → Option Packet → Played Midst
deliver_acted name s None = Skips
deliver_acted name s (Some packet) = Makes (if comes_in packet s then received name packet s else s)

-- a packet that is lost comes to nobody
abbrev pub lose_acted : Underway → Option Packet → Played Midst
lose_acted s None = Skips
lose_acted s (Some packet) = Makes s

-- a packet that is repeated goes once more over its bus
abbrev pub repeat_acted : BusName → Underway → Option Packet → Played Midst
repeat_acted name s None = Skips
repeat_acted name s (Some packet) = Makes (record s { wires = goes_over name packet s.wires })

-- Stops and ticks

-- a processor that hasn't stopped stops, but not in a world that isn't whole
abbrev pub stop_acted : ℕ → Underway → Option Done → Played Midst
stop_acted processor s None = Would (SecondStop processor)
stop_acted processor s (Some done) = Makes (record s { world = done.world })

abbrev pub fail_acted : ℕ → Underway → Option Bool → Played Midst
fail_acted processor s None = Skips
fail_acted processor s (Some true) = Skips
fail_acted processor s (Some false) = stop_acted processor s (stop_done processor s.world)

-- a processor is loaded again, and nothing is sent
abbrev pub reload_acted : ℕ → Underway → Option Done → Played Midst
reload_acted processor s None = Skips
reload_acted processor s (Some done) =
    Makes (record s { world = done.world; wires = loaded_again s.site.processors processor s.wires })

-- a node tells the others that a processor is down
abbrev pub declared : ℕ → ℕ → Underway → Underway
declared node processor s = record s { wires = declares s.site.processors node processor s.wires }

-- a node marks the processor whose line it pulled, and then tells the others
abbrev pub marks_and_declares : ℕ → ℕ → Underway → Underway
marks_and_declares node processor s = declared node processor (marks node processor s)

-- the line of a processor that runs is pulled: it stops, but not in a world that isn't whole
abbrev pub pulled_running : ℕ → ℕ → Underway → Option Done → Played Midst
pulled_running node processor s None = Would (SecondStop processor)
pulled_running node processor s (Some done) =
    Makes (marks_and_declares node processor (record s { world = done.world }))

-- a line is pulled: a processor that runs is stopped by it, and one that has stopped is marked
abbrev pub pulled : ℕ → ℕ → Underway → Option Bool → Played Midst
pulled node processor s None = Makes s
pulled node processor s (Some true) = Makes (marks_and_declares node processor s)
pulled node processor s (Some false) = pulled_running node processor s (stop_done processor s.world)

abbrev pub pulls : ℕ → Underway → Option ℕ → Played Midst
pulls node s None = Makes s
pulls node s (Some processor) = pulled node processor s (slice_get s.world.stopped processor)

-- the line that a node pulls now
abbrev pub line_of : ℕ → Underway → Option ℕ
line_of node s = option_and_then (line_pulled node) (slice_get s.wires.nodes node)

abbrev pub pulls_its : ℕ → Underway → Played Midst
pulls_its node s = pulls node s (line_of node s)

-- a node that runs sends what its tick sends, and then pulls a line, if one is to be pulled
abbrev pub tick_acted : ℕ → Underway → Played Midst
tick_acted node s =
    if is_running s.world.stopped node then pulls_its node
    (record s { wires = midst_after_tick s.site.processors node s.wires })
    else Skips

-- Events

-- the packet that stands at a position of a bus, from 0
abbrev pub packet_at : Packeted → BusName → ℕ → Option Packet
packet_at s name k = slice_get (on_bus name s.wires) k

-- what an event does at the nodes, and what it sends. Of the buses it knows the packet alone that it names
abbrev pub acted : Packeted → Event → Played Midst
acted s (Run number) = made_by (underway s) (run_done s.site number s.world)
acted s (Enter terminal) = made_by (underway s) (enter_done s.site terminal s.world)
acted s (Deliver bus k) = deliver_acted bus (underway s) (packet_at s bus k)
acted s (Lose bus k) = lose_acted (underway s) (packet_at s bus k)
acted s (Repeat bus k) = repeat_acted bus (underway s) (packet_at s bus k)
acted s (Tick node) = tick_acted node (underway s)
acted s (Fail processor) = fail_acted processor (underway s) (slice_get s.world.stopped processor)
acted s (Reload processor) = reload_acted processor (underway s) (reload_done s.site processor s.world)
acted s (Drive event) = drive_played event (underway s)

-- the wires without the packet that an event delivers or loses
abbrev pub taken_off : Event → Wires → Wires
taken_off (Run number) wires = wires
taken_off (Enter terminal) wires = wires
taken_off (Deliver bus k) wires = without_packet bus k wires
taken_off (Lose bus k) wires = without_packet bus k wires
taken_off (Repeat bus k) wires = wires
taken_off (Tick node) wires = wires
taken_off (Fail processor) wires = wires
taken_off (Reload processor) wires = wires
taken_off (Drive event) wires = wires

abbrev pub ended : Wires → Played Midst → Played Wires
ended wires (Makes s) = Makes (over wires s)
ended wires Skips = Skips
ended wires (Would harm) = Would harm

-- what an event makes of a state
abbrev pub play : Packeted → Event → Played Wires
play s event = ended (taken_off event s.wires) (acted s event)

-- what an event sends, in its order
abbrev pub out_of : Played Midst → List Outgoing
out_of (Makes s) = s.wires.out
out_of Skips = []
out_of (Would harm) = []

abbrev pub sent_by : Packeted → Event → List Outgoing
sent_by s event = out_of (acted s event)

-- an event is clear: each bus has room for all that it sends over it
abbrev pub IsClear : Packeted → Event → Type 0
IsClear s event = (name : BusName) → length (on_bus name (taken_off event s.wires))
    + length (packets_over name (sent_by s event)) ≤ MOST_PACKETS

-- What is told of the buses

abbrev pub count_on : Packeted → BusName → ℕ
count_on s name = length (on_bus name s.wires)

abbrev pub kind_at : Packeted → BusName → ℕ → Option PacketKind
kind_at s name k = option_map (λ packet. packet.kind) (packet_at s name k)

abbrev pub sender_at : Packeted → BusName → ℕ → Option ℕ
sender_at s name k = option_map (λ packet. packet.sender) (packet_at s name k)

-- Parts of an event on wires. That packets are sent as the event goes on, and not all at its end, is our own.
use Rattle.std.specs.Prelude.{◌≡◌, ℕ, ℤ, Bool, false, ◌++◌, List, Option, Some, None, slice_get}
use Rattle.std.specs.Option.{option_and_then, option_map}
use Rattle.schedule.specs.declared.bus_name.BusName.{BusName}
use Rattle.packet_words.specs.declared.packet.Packet.{Packet}
use Rattle.alive_regroup.specs.Watching.{Watching}
use Rattle.packet_wires.specs.Nodes.{Node, end_at}
use Rattle.packet_wires.specs.Play.{message_at_end, is_current_at}
use Rattle.packet_wires.specs.Wires.{Wires, Outgoing, Midst, nothing_sent, with_sent, without_packet, goes_over}
use Rattle.packet_wires.specs.Wires.{midst_after_arrival}

-- the wires after a part of an event that began with them: the nodes as it left them, and on the buses what it sent
abbrev pub carried_out : (Midst → Midst) → Wires → Wires
carried_out part wires = with_sent (part (nothing_sent wires.nodes)) wires

-- the same, after this was sent
abbrev pub sent_earlier : List Outgoing → Midst → Midst
sent_earlier out midst = record midst { out = out ++ midst.out }

-- a part sees nothing of what was sent before it, and only adds to that
abbrev pub OnlyAdds : (Midst → Midst) → Type 0
OnlyAdds part = (midst : Midst) → part midst ≡ sent_earlier midst.out (part (nothing_sent midst.nodes))

-- what a node, where there is one, knows of the processors
abbrev pub watch_at : List Node → ℕ → Option Watching
watch_at nodes x = option_map (λ node. node.watch) (slice_get nodes x)

-- What is done with the packet that was looked for at a position of a bus, where one is there

-- it is taken off, and comes at its receiver
abbrev pub wires_after_delivery : BusName → ℕ → Option Packet → Wires → Wires
wires_after_delivery name k None wires = wires
wires_after_delivery name k (Some packet) wires =
    carried_out (midst_after_arrival name packet) (without_packet name k wires)

-- the message that is whole with it
abbrev pub completed_by : Option Packet → List Node → Option (List ℤ)
completed_by found nodes =
    option_and_then (λ packet. message_at_end packet (end_at nodes packet.receiver packet.sender)) found

-- it is sent once more over its bus
abbrev pub wires_after_repeat : BusName → Option Packet → Wires → Wires
wires_after_repeat name None wires = wires
wires_after_repeat name (Some packet) wires = carried_out (goes_over name packet) wires

-- whether it bears the incarnations that the end knows to which it comes
abbrev pub is_current_in : Option Packet → List Node → Bool
is_current_in None nodes = false
is_current_in (Some packet) nodes = is_current_at packet (end_at nodes packet.receiver packet.sender)

-- What a schedule plays over packets.
use Rattle.std.specs.Prelude.{◌≡◌, ◌⊎◌, List}
use Rattle.schedule.specs.declared.bus_name.BusName.{BusName}
use Rattle.schedule.specs.declared.event.Event.{Event}
pub use Rattle.agendas.specs.Sizes.{sizes_of}
use Rattle.packet_words.specs.declared.packet.Packet.{Packet}
use Rattle.machine_states.specs.States.{Makes, Skips}
use Rattle.packet_wires.specs.Play.{Packeted, IsClear, play}
use Rattle.packet_wires.specs.Wires.{on_bus}

abbrev pub buses_of : Packeted → BusName → List Packet
buses_of s name = on_bus name s.wires

-- an event makes the next state, or it is skipped and leaves the state
abbrev pub IsPlay : Packeted → Event → Packeted → Type 0
IsPlay s event next = (play s event ≡ Makes next) ⊎ ((play s event ≡ Skips) × (next ≡ s))

-- and both buses have room for all that it sends
abbrev pub IsClearPlay : Packeted → Event → Packeted → Type 0
IsClearPlay s event next = IsClear s event × IsPlay s event next

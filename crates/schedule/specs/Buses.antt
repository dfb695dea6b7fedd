-- The two buses between the nodes.
use Rattle.std.specs.Prelude.{Bool, true, false}
use Rattle.schedule.specs.declared.bus_name.BusName.{BusName}
use Rattle.schedule.specs.declared.bus_name.BusName.TheVariants as bus

-- the bus that a packet takes when it is sent again
abbrev pub other_bus : BusName → BusName
other_bus bus.X = bus.Y
other_bus bus.Y = bus.X

-- whether two names are those of one bus
abbrev pub is_bus : BusName → BusName → Bool
is_bus bus.X bus.X = true
is_bus bus.X bus.Y = false
is_bus bus.Y bus.X = false
is_bus bus.Y bus.Y = true

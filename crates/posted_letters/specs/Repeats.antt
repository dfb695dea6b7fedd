-- What the code tells of a packet that is repeated. Our own rule.
use Rattle.std.specs.Prelude.{◌≡◌, Bool, true, false, Option, Some, None}
use Rattle.message_wires.specs.Wires.{Sent, Wires, repeated_packet}

-- whether there was a packet, and the wires afterwards: with it once more, or as they were
abbrev pub IsRepeated : Option Sent → Wires → Bool → Wires → Type 0
IsRepeated None old there new = (there ≡ false) × (new ≡ old)
IsRepeated (Some packet) old there new = (there ≡ true) × (new ≡ repeated_packet packet old)

-- The packets on a bus. That a bus has room for 4,096 of them is this project's own rule.
use Rattle.std.specs.Prelude.{Bool, nat_lt, List, [], ◌∷◌, ◌++◌, length, Option, Some, None, if◌then◌else◌}
use Rattle.packet_words.specs.declared.packet.Packet.{Packet}
use Rattle.packet_words.specs.gd_words.specs.declared.limits.TheConstants.{MOST_PACKETS}

-- whether one more packet goes onto the bus
abbrev pub has_room : List Packet → Bool
has_room packets = nat_lt (length packets) MOST_PACKETS

-- a packet that is sent goes to the end, and is lost on a full bus
abbrev pub sent : Packet → List Packet → List Packet
sent packet packets = if has_room packets then packets ++ packet ∷ [] else packets

-- a packet that is repeated is sent once more; where there is none, nothing is
abbrev pub sent_again : Option Packet → List Packet → List Packet
sent_again None packets = packets
sent_again (Some packet) packets = sent packet packets

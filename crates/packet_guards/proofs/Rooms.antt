-- The room of a bus.
use Rattle.std.proofs.Common.{◌≡◌, ◌≤◌, ◌+◌, List, [], ◌∷◌, ◌++◌, length, refl, ap, ◌∙◌, arith, length-append}
use Rattle.schedule.specs.declared.bus_name.BusName.{BusName}
use Rattle.schedule.specs.declared.bus_name.BusName.TheVariants.{X, Y}
use Rattle.packet_words.specs.declared.packet.Packet.{Packet}
use Rattle.bus_model.specs.Packets.{sent}
use Rattle.packet_wires.proofs.Rooms.{sent-there, sent-full, all-there, all-full}
use Rattle.packet_wires.specs.Nodes.{Node}
use Rattle.packet_wires.specs.Wires.{Wires, Midst, on_bus, packets_over, all_put, with_sent, goes_over, nothing_sent}

pub room : (name : BusName) (midst : Midst) (wires : Wires)
    → length (on_bus name wires) + length (packets_over name midst.out) ≤ 4096
    → on_bus name (with_sent midst wires) ≡ on_bus name wires ++ packets_over name midst.out
room X midst wires low = all-there (packets_over X midst.out) wires.x low
room Y midst wires low = all-there (packets_over Y midst.out) wires.y low

pub full : (name : BusName) (midst : Midst) (wires : Wires) → length (on_bus name wires) ≡ 4096
    → on_bus name (with_sent midst wires) ≡ on_bus name wires
full X midst wires same = all-full (packets_over X midst.out) wires.x same
full Y midst wires same = all-full (packets_over Y midst.out) wires.y same

pub last-there : (packet other : Packet) (on : List Packet) → length on ≡ 4095
    → all_put (packet ∷ other ∷ []) on ≡ on ++ packet ∷ []
last-there packet other on same =
    ap (sent other) (sent-there packet on (omega (arith, same)))
    ∙ sent-full other (on ++ packet ∷ []) (omega (arith, same, length-append on (packet ∷ [])))

pub over-x : (one other : Packet) (nodes : List Node)
    → packets_over X (goes_over X other (goes_over Y other (goes_over X one (nothing_sent nodes)))).out
    ≡ one ∷ other ∷ []
over-x one other nodes = refl

pub over-y : (one other : Packet) (nodes : List Node)
    → packets_over Y (goes_over Y other (goes_over X other (goes_over Y one (nothing_sent nodes)))).out
    ≡ one ∷ other ∷ []
over-y one other nodes = refl

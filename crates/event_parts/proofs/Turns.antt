-- Parts that are carried out one after the other.
use Rattle.std.proofs.Common.{◌≡◌, ℕ, List, [], ◌∷◌, ◌++◌, map, refl, ap, ap₂, sym, ◌∙◌}
use Rattle.std.proofs.lemmas.List.{map-append}
use Rattle.std.proofs.lemmas.List.Elements.{filter-append}
use Rattle.std.specs.List.{filter}
use Rattle.schedule.specs.Buses.{is_bus}
use Rattle.schedule.specs.declared.bus_name.BusName.{BusName}
use Rattle.schedule.specs.declared.bus_name.BusName.TheVariants as bus
use Rattle.packet_words.specs.declared.packet.Packet.{Packet}
use Rattle.packet_wires.specs.bus_model.specs.Packets.{sent}
use Rattle.packet_wires.specs.Nodes.{Node}
use Rattle.packet_wires.specs.Wires.{Wires, Midst, Outgoing, all_put, for_each, nothing_sent, packets_over}
use Rattle.packet_wires.specs.Wires.{with_sent}
use Rattle.event_parts.specs.Parts.{OnlyAdds, carried_out}
use Rattle.event_parts.proofs.Adds.{adds-for-each}

over-append : (name : BusName) (first more : List Outgoing)
    → packets_over name (first ++ more) ≡ packets_over name first ++ packets_over name more
over-append name first more =
    ap (map (λ (one : Outgoing). one.packet)) (filter-append (λ (one : Outgoing). is_bus name one.bus) first more)
    ∙ map-append (λ (one : Outgoing). one.packet) (filter (λ (one : Outgoing). is_bus name one.bus) first)
    (filter (λ (one : Outgoing). is_bus name one.bus) more)

put-append : (first more on : List Packet) → all_put (first ++ more) on ≡ all_put more (all_put first on)
put-append [] more on = refl
put-append (packet ∷ first) more on = put-append first more (sent packet on)

put-both : (name : BusName) (first more : List Outgoing) (on : List Packet)
    → all_put (packets_over name (first ++ more)) on
    ≡ all_put (packets_over name more) (all_put (packets_over name first) on)
put-both name first more on =
    ap (λ (packets : List Packet). all_put packets on) (over-append name first more)
    ∙ put-append (packets_over name first) (packets_over name more) on

abbrev with_buses : List Node → List Packet → List Packet → Wires
with_buses nodes x y = record { x = x; y = y; nodes = nodes }

pub carried-then : (first second : Midst → Midst) (wires : Wires) → OnlyAdds second
    → carried_out second (carried_out first wires) ≡ carried_out (λ midst. second (first midst)) wires
carried-then first second wires adds =
    let one : Midst = first (nothing_sent wires.nodes) in
    let two : Midst = second (nothing_sent one.nodes) in
    sym (ap (λ (midst : Midst). with_sent midst wires) (adds one)
    ∙ ap₂ (λ (x y : List Packet). with_buses two.nodes x y) (put-both bus.X one.out two.out wires.x)
    (put-both bus.Y one.out two.out wires.y))

-- the first of several nodes, and then the others
pub carried-each : (does : ℕ → Midst → Midst) → ((y : ℕ) → OnlyAdds (does y)) → (y : ℕ) (ys : List ℕ) (wires : Wires)
    → carried_out (for_each does ys) (carried_out (does y) wires) ≡ carried_out (for_each does (y ∷ ys)) wires
carried-each does adds y ys wires = carried-then (does y) (for_each does ys) wires (adds-for-each does adds ys)

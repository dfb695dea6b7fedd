-- What is among the packets on the buses.
use Rattle.std.proofs.Common.{◌≡◌, ◌⊎◌, inl, inr, ℕ, zero, suc, Bool, true, false, if◌then◌else◌, List, [], ◌∷◌, ◌++◌}
use Rattle.std.proofs.Common.{map, refl}
use Rattle.std.specs.List.{filter, remove}
use Rattle.gd_words.specs.Members.{IsAmong}
use Rattle.gd_words.proofs.Among.{among-left, among-right, among-either}
use Rattle.schedule.specs.Buses.{is_bus}
use Rattle.schedule.specs.declared.bus_name.BusName.{BusName}
use Rattle.schedule.specs.declared.bus_name.BusName.TheVariants as bus
use Rattle.packet_words.specs.declared.packet.Packet.{Packet}
use Rattle.bus_model.specs.Packets as buses
use Rattle.packet_wires.specs.Wires.{Wires, Outgoing, without_packet, packets_over, all_put}
use Rattle.packet_nets.specs.Owing.{on_both}

-- a packet is taken off a bus
among-remove : (one : Packet) (all : List Packet) (k : ℕ) → IsAmong one (remove all k) → IsAmong one all
among-remove one [] zero among = absurd among
among-remove one [] (suc k) among = absurd among
among-remove one (packet ∷ all) zero among = inr among
among-remove one (packet ∷ all) (suc k) (inl same) = inl same
among-remove one (packet ∷ all) (suc k) (inr among) = inr (among-remove one all k among)

-- what is on one bus, or on the other
pub either-bus : (p : Packet) (x y on : List Packet) → (IsAmong p x → IsAmong p on) → (IsAmong p y → IsAmong p on)
    → IsAmong p (x ++ y) → IsAmong p on
either-bus p x y on one other among = elim (among-either p x y among) [ inl here ↦ one here | inr here ↦ other here ]

pub among-without : (name : BusName) (k : ℕ) (wires : Wires) (p : Packet)
    → IsAmong p (on_both (without_packet name k wires)) → IsAmong p (on_both wires)
among-without bus.X k wires p among =
    either-bus p (remove wires.x k) wires.y (wires.x ++ wires.y)
    (λ here. among-left p wires.x wires.y (among-remove p wires.x k here))
    (λ here. among-right p wires.x wires.y here) among
among-without bus.Y k wires p among =
    either-bus p wires.x (remove wires.y k) (wires.x ++ wires.y) (λ here. among-left p wires.x wires.y here)
    (λ here. among-right p wires.x wires.y (among-remove p wires.y k here)) among

-- What is put on the buses was there, or was sent

among-sent : (packet p : Packet) (on : List Packet) → IsAmong p (buses.sent packet on) → IsAmong p on ⊎ (p ≡ packet)
among-sent packet p on among = by (buses.has_room on) among
  where
    by : (test : Bool) → IsAmong p (if test then on ++ packet ∷ [] else on) → IsAmong p on ⊎ (p ≡ packet)
    by false among = inl among
    by true among = elim (among-either p on (packet ∷ []) among) [
      | inl before ↦ inl before
      | inr now ↦ elim now [ inl same ↦ inr same | inr none ↦ absurd none ]
    ]

pub among-put : (packets on : List Packet) (p : Packet) → IsAmong p (all_put packets on)
    → IsAmong p on ⊎ IsAmong p packets
among-put [] on p among = inl among
among-put (packet ∷ packets) on p among = elim (among-put packets (buses.sent packet on) p among) [
  | inl before ↦ elim (among-sent packet p on before) [ inl there ↦ inl there | inr same ↦ inr (inl same) ]
  | inr later ↦ inr (inr later)
]

pub among-over : (name : BusName) (out : List Outgoing) (p : Packet) → IsAmong p (packets_over name out)
    → (one : Outgoing) × IsAmong one out × (p ≡ one.packet)
among-over name [] p among = absurd among
among-over name (one ∷ out) p among = by (is_bus name one.bus) among (among-over name out p)
  where
    later : (more : Outgoing) × IsAmong more out × (p ≡ more.packet)
        → (more : Outgoing) × IsAmong more (one ∷ out) × (p ≡ more.packet)
    later (more, among, same) = (more, inr among, same)

    by : (test : Bool) → IsAmong p (map (λ (o : Outgoing). o.packet)
        (if test then one ∷ filter (λ (o : Outgoing). is_bus name o.bus) out else filter
        (λ (o : Outgoing). is_bus name o.bus) out))
        → (IsAmong p (packets_over name out) → (more : Outgoing) × IsAmong more out × (p ≡ more.packet))
        → (more : Outgoing) × IsAmong more (one ∷ out) × (p ≡ more.packet)
    by true (inl same) rest = (one, inl refl, same)
    by true (inr among) rest = later (rest among)
    by false among rest = later (rest among)

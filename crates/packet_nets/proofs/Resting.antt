-- An event is over: what it sent is put on the buses of the net.
use Rattle.std.proofs.Common.{◌≡◌, ◌≤◌, ◌⊎◌, inl, inr, ℕ, ◌+◌, Bool, true, false, if◌then◌else◌, List, [], ◌∷◌, ◌++◌}
use Rattle.std.proofs.Common.{length, map, refl, sym, subst}
use Rattle.std.specs.List.{filter}
use Rattle.gd_words.specs.Members.{IsAmong}
use Rattle.gd_words.proofs.Among.{among-left, among-right, among-either}
use Rattle.schedule.specs.Buses.{is_bus}
use Rattle.schedule.specs.declared.bus_name.BusName.{BusName}
use Rattle.schedule.specs.declared.bus_name.BusName.TheVariants as bus
use Rattle.packet_words.specs.declared.packet.Packet.{Packet}
use Rattle.channel_laws.specs.Net.{Net, Goes, bus_changes}
use Rattle.channel_laws.specs.Rounds.{Passes, nothing, by_bus}
use Rattle.channel_laws.proofs.Nets.{whole-goes}
use Rattle.packet_wires.specs.Wires.{Wires, Midst, Outgoing, nothing_sent, on_bus, packets_over, with_sent}
use Rattle.packet_wires.proofs.Rooms.{all-there}
use Rattle.packet_nets.specs.Tied.{IsTied}
use Rattle.packet_nets.specs.Owing.{on_both}
use Rattle.packet_nets.specs.Passing.{GoesOut, IsNet, IsPassing}
use Rattle.packet_nets.proofs.Tied.{fewer-tied, rest-tied}

-- an event begins
pub begins-passing : {a b : ℕ} {stopped : List Bool} {n : Net} (wires : Wires) → length stopped ≤ 16
    → IsNet stopped wires n
    → IsPassing a b stopped (on_both wires) n [] (nothing_sent wires.nodes)
begins-passing {n = n} wires few N = record
    { net = n; tied = N.tied; passes = nothing; held = λ p among. inl (N.held p among); senders = N.senders; few = few }

-- a packet goes over its own bus
own-bus : (out : List Outgoing) (one : Outgoing) → IsAmong one out → IsAmong one.packet (packets_over one.bus out)
own-bus [] one among = absurd among
own-bus (first ∷ out) one (inl same) =
    subst (λ (o : Outgoing). IsAmong one.packet (packets_over one.bus (o ∷ out))) same (by one.bus one.packet)
  where
    by : (name : BusName) (packet : Packet)
        → IsAmong packet (packets_over name (record { bus = name; packet = packet } ∷ out))
    by bus.X packet = inl refl
    by bus.Y packet = inl refl
own-bus (first ∷ out) one (inr among) = by (is_bus one.bus first.bus) (own-bus out one among)
  where
    by : (test : Bool) → IsAmong one.packet (packets_over one.bus out)
        → IsAmong one.packet (map (λ (o : Outgoing). o.packet)
        (if test then first ∷ filter (λ (o : Outgoing). is_bus one.bus o.bus) out else filter
        (λ (o : Outgoing). is_bus one.bus o.bus) out))
    by true later = inr later
    by false later = later

module _ {a b : ℕ} {stopped : List Bool} {start : Net} {came : List Packet} (wires taken : Wires) (midst : Midst)
    (P : IsPassing a b stopped (on_both wires) start came midst)
    (from : (p : Packet) → IsAmong p (on_both taken) → IsAmong p (on_both wires)) where
  abbrev next : Wires
  next = with_sent midst taken

  -- what is on the buses then is in flight
  rests : IsTied stopped (on_both (with_sent midst taken)) (nothing_sent midst.nodes) P.net
  rests = rest-tied taken (fewer-tied from P.tied)

  pub rest-lost : Goes P.net (record P.net { flight = on_both (with_sent midst taken) })
  rest-lost = bus_changes (on_both (with_sent midst taken)) rests.flight

  pub rest-net : IsNet stopped (with_sent midst taken) (record P.net { flight = on_both (with_sent midst taken) })
  rest-net = record {
    tied = record {
      shape = rests.shape;
      names = rests.names;
      whole = whole-goes rest-lost P.tied.whole;
      stood = rests.stood;
      ends = rests.ends;
      flight = λ p among. among;
      out = λ one none. absurd none;
      down = rests.down;
    };
    held = λ p among. among;
    senders = λ p among. P.senders p (rests.flight p among);
  }

  module _ (room : (name : BusName) → length (on_bus name taken) + length (packets_over name midst.out) ≤ 4096) where
    on-one : (name : BusName) → on_bus name (with_sent midst taken) ≡ on_bus name taken ++ packets_over name midst.out
    on-one bus.X = all-there (packets_over bus.X midst.out) taken.x (room bus.X)
    on-one bus.Y = all-there (packets_over bus.Y midst.out) taken.y (room bus.Y)

    on-either : (name : BusName) (p : Packet) → IsAmong p (on_bus name (with_sent midst taken))
        → IsAmong p (on_both (with_sent midst taken))
    on-either bus.X p among = among-left p (with_sent midst taken).x (with_sent midst taken).y among
    on-either bus.Y p among = among-right p (with_sent midst taken).x (with_sent midst taken).y among

    stays-on : (name : BusName) (p : Packet) → IsAmong p (on_bus name taken)
        → IsAmong p (on_both (with_sent midst taken))
    stays-on name p among =
        on-either name p (subst (IsAmong p) (sym (on-one name))
        (among-left p (on_bus name taken) (packets_over name midst.out) among))

    lands : (p : Packet) → GoesOut p midst.out → IsAmong p (on_both (with_sent midst taken))
    lands p (one, among, same) =
        on-either one.bus p (subst (IsAmong p) (sym (on-one one.bus))
        (among-right p (on_bus one.bus taken) (packets_over one.bus midst.out)
        (subst (λ q. IsAmong q (packets_over one.bus midst.out)) (sym same) (own-bus midst.out one among))))

    still : ((p : Packet) → IsAmong p (on_both wires) → IsAmong p (on_both taken) ⊎ IsAmong p came) → (p : Packet)
        → IsAmong p (on_both wires) ⊎ GoesOut p midst.out ⊎ IsAmong p came
        → IsAmong p (on_both (with_sent midst taken)) ⊎ IsAmong p came
    still kept p (inr (inl out)) = inl (lands p out)
    still kept p (inr (inr before)) = inr before
    still kept p (inl stands) = elim (kept p stands) [
      | inl left ↦ elim (among-either p taken.x taken.y left)
          [ inl one ↦ inl (stays-on bus.X p one) | inr other ↦ inl (stays-on bus.Y p other) ]
      | inr before ↦ inr before
    ]

    -- where each bus has room and nothing was lost before, nothing is lost
    pub rest-clear : ((p : Packet) → IsAmong p (on_both wires) → IsAmong p (on_both taken) ⊎ IsAmong p came)
        → Passes a b start came (record P.net { flight = on_both (with_sent midst taken) })
    rest-clear kept =
        by_bus (on_both (with_sent midst taken)) rests.flight (λ p among. still kept p (P.held p among)) P.passes

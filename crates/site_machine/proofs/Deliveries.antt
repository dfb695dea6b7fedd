-- A packet that is delivered, by what becomes of it.
use Rattle.std.specs.List.{remove}
use Rattle.std.specs.Option.{option_map}
use Rattle.std.proofs.Common.{◌≡◌, ℕ, zero, suc, ℤ, Bool, true, false, if◌then◌else◌, List, [], ◌∷◌, Option, Some, None}
use Rattle.std.proofs.Common.{◌&&◌, slice_get, refl, ap, ap₂, sym, subst, ◌∙◌}
use Rattle.node.specs.world_semantics.proofs.Lists.{some-same}
use Rattle.schedule.specs.declared.bus_name.BusName.{BusName}
use Rattle.schedule.specs.declared.bus_name.BusName.TheVariants as bus
use Rattle.packet_words.specs.declared.packet.Packet.{Packet}
use Rattle.packet_words.specs.declared.packet.PacketKind.{PacketKind}
use Rattle.packet_words.specs.declared.packet.PacketKind.TheVariants as kind
use Rattle.node.specs.world_semantics.specs.World.{is_running}
use Rattle.node.specs.Calls.{address_if_alive, alive_address}
use Rattle.node.specs.machine_states.specs.States.{Settles}
use Rattle.node.specs.machine_states.specs.declared.effect.Effect.TheVariants as effect
use Rattle.node.specs.packet_wires.specs.Nodes.{Node, end_at}
use Rattle.node.specs.packet_wires.specs.Play.{Packeted, underway, message_at_end, deliver_acted, ended, handed_words}
use Rattle.node.specs.packet_wires.specs.Play.{over}
use Rattle.node.specs.packet_wires.specs.Play.{received}
use Rattle.node.specs.packet_wires.specs.Wires.{Wires, midst_after_arrival, nothing_sent, on_bus, with_bus}
use Rattle.node.specs.packet_wires.specs.Wires.{without_packet}
use Rattle.node.specs.event_parts.specs.Numbers.{CanPush}
use Rattle.node.specs.event_parts.specs.Parts.{carried_out, completed_by, wires_after_delivery, is_current_in}
use Rattle.node.specs.event_parts.proofs.Numbers.{can-arrived}
use Rattle.site_machine.specs.Needs.{CanHand, HaveNumbersLeft, IsReady}
use Rattle.site_machine.specs.Told.{after_part}
use Rattle.site_machine.proofs.Turns.{handed-in-turn}

-- the receiver of an I'm-alive packet
address-receiver : (packet : Packet) (sort : PacketKind) (receiver sender : ℕ)
    → address_if_alive packet sort ≡ Some (receiver, sender) → Some receiver ≡ Some packet.receiver
address-receiver packet kind.Alive receiver sender is = ap (option_map (λ (p : ℕ × ℕ). p.0)) (sym is)
address-receiver packet (kind.Piece number piece) receiver sender is = absurd cc
address-receiver packet (kind.Acknowledgement number) receiver sender is = absurd cc

alive-receiver : (found : Option Packet) (receiver sender : ℕ) → alive_address found ≡ Some (receiver, sender)
    → Some receiver ≡ option_map (λ (packet : Packet). packet.receiver) found
alive-receiver None receiver sender is = absurd cc
alive-receiver (Some packet) receiver sender is = address-receiver packet packet.kind receiver sender is

-- where no packet stands
remove-none : {A : Type 0} (xs : List A) (k : ℕ) → slice_get xs k ≡ None → remove xs k ≡ xs
remove-none [] zero none = refl
remove-none [] (suc k) none = refl
remove-none (x ∷ xs) zero none = absurd cc
remove-none (x ∷ xs) (suc k) none = ap (λ rest. x ∷ rest) (remove-none xs k none)

bus-same : (name : BusName) (wires : Wires) → with_bus name (on_bus name wires) wires ≡ wires
bus-same bus.X wires = refl
bus-same bus.Y wires = refl

none-off : (name : BusName) (k : ℕ) (wires : Wires) → slice_get (on_bus name wires) k ≡ None
    → without_packet name k wires ≡ wires
none-off name k wires none =
    ap (λ (packets : List Packet). with_bus name packets wires) (remove-none (on_bus name wires) k none)
    ∙ bus-same name wires

module _ (name : BusName) (k : ℕ) (s : Packeted) where
  abbrev off : Wires
  off = without_packet name k s.wires

  -- whether a packet that was found, and comes to this receiver, comes in there
  abbrev comes : ℕ → Option Packet → Bool
  comes receiver found = is_running s.world.stopped receiver && is_current_in found s.wires.nodes

  pub none-delivered : (after : Packeted) → None ≡ slice_get (on_bus name s.wires) k → after ≡ record s { wires = off }
      → Settles (ended off (deliver_acted name (underway s) (slice_get (on_bus name s.wires) k))) s effect.Skipped after
  none-delivered after is same =
      subst (λ (found : Option Packet). Settles (ended off (deliver_acted name (underway s) found)) s effect.Skipped
      after) is
      (refl, same ∙ ap (λ (wires : Wires). record s { wires = wires }) (none-off name k s.wires (sym is)))

  -- a packet that was taken off
  nodes-off : (of : BusName) → (without_packet of k s.wires).nodes ≡ s.wires.nodes
  nodes-off bus.X = refl
  nodes-off bus.Y = refl

  module _ (packet : Packet) (mid : Packeted) (took : mid ≡ record s { wires = off }) where
    mid-nodes : mid.wires.nodes ≡ s.wires.nodes
    mid-nodes = ap (λ (m : Packeted). m.wires.nodes) took ∙ nodes-off name

    pub comes-off : (is_running mid.world.stopped packet.receiver && is_current_in (Some packet) mid.wires.nodes)
        ≡ comes packet.receiver (Some packet)
    comes-off =
        ap₂ (λ (stopped : List Bool) (nodes : List Node). is_running stopped packet.receiver
        && is_current_in (Some packet) nodes) (ap (λ (m : Packeted). m.world.stopped) took) mid-nodes

    pub left-off : HaveNumbersLeft s.wires.nodes → HaveNumbersLeft mid.wires.nodes
    left-off left = subst HaveNumbersLeft (sym mid-nodes) left

    pub arrived-off : (later : Packeted) → later
        ≡ record mid { wires = carried_out (midst_after_arrival name packet) mid.wires }
        → later ≡ record s { wires = wires_after_delivery name k (Some packet) s.wires }
    arrived-off later came =
        came ∙ ap (λ (m : Packeted). record m { wires = carried_out (midst_after_arrival name packet) m.wires }) took

    pub whole-off : (words : Option (List ℤ))
        → words ≡ message_at_end packet (end_at mid.wires.nodes packet.receiver packet.sender)
        → words ≡ completed_by (Some packet) s.wires.nodes
    whole-off words whole =
        whole ∙ ap (λ (nodes : List Node). message_at_end packet (end_at nodes packet.receiver packet.sender)) mid-nodes

  dropped : (of : BusName) → record s { wires = without_packet of k s.wires }
      ≡ over (without_packet of k s.wires) (underway s)
  dropped bus.X = refl
  dropped bus.Y = refl

  pub delivery-dropped : (found : Option Packet) (receiver : ℕ) (after : Packeted)
      → Some receiver ≡ option_map (λ (packet : Packet). packet.receiver) found
      → comes receiver found ≡ false → after ≡ record s { wires = off }
      → Settles (ended off (deliver_acted name (underway s) found)) s effect.Done after
  delivery-dropped None receiver after is stops same = absurd cc
  delivery-dropped (Some packet) receiver after is stops same = (
    refl,
    same ∙ dropped name
        ∙ sym (ap (λ (b : Bool). over off (if b then received name packet (underway s) else underway s))
        (ap (λ (r : ℕ). comes r (Some packet)) (sym (some-same is)) ∙ stops)),
  )

  turned : (of : BusName) (packet : Packet)
      → after_part (handed_words packet.receiver
      (message_at_end packet (end_at s.wires.nodes packet.receiver packet.sender)))
      (record s { wires = carried_out (midst_after_arrival of packet) (without_packet of k s.wires) })
      ≡ over (without_packet of k s.wires) (received of packet (underway s))
  turned bus.X packet =
      sym (handed-in-turn (midst_after_arrival bus.X packet) packet.receiver
      (message_at_end packet (end_at s.wires.nodes packet.receiver packet.sender))
      (record s { wires = without_packet bus.X k s.wires }))
  turned bus.Y packet =
      sym (handed-in-turn (midst_after_arrival bus.Y packet) packet.receiver
      (message_at_end packet (end_at s.wires.nodes packet.receiver packet.sender))
      (record s { wires = without_packet bus.Y k s.wires }))

  pub delivery-comes : (found : Option Packet) (receiver : ℕ) (mid after : Packeted) (words : Option (List ℤ))
      → Some receiver ≡ option_map (λ (packet : Packet). packet.receiver) found
      → comes receiver found ≡ true → words ≡ completed_by found s.wires.nodes
      → mid ≡ record s { wires = wires_after_delivery name k found s.wires }
      → after ≡ after_part (handed_words receiver words) mid
      → Settles (ended off (deliver_acted name (underway s) found)) s effect.Done after
  delivery-comes None receiver mid after words is runs whole came hands = absurd cc
  delivery-comes (Some packet) receiver mid after words is runs whole came hands = (
    refl,
    hands
        ∙ ap (after_part (handed_words receiver words)) came
        ∙ ap (λ (w : Option (List ℤ)). after_part (handed_words receiver w)
        (record s { wires = wires_after_delivery name k (Some packet) s.wires })) whole
        ∙ ap (λ (r : ℕ). after_part (handed_words r (completed_by (Some packet) s.wires.nodes))
        (record s { wires = wires_after_delivery name k (Some packet) s.wires })) (some-same is)
        ∙ turned name packet
        ∙ sym (ap (λ (b : Bool). over off (if b then received name packet (underway s) else underway s))
        (ap (λ (r : ℕ). comes r (Some packet)) (sym (some-same is)) ∙ runs)),
  )

  -- an I'm-alive packet is all that comes with it
  pub alive-comes : (found : Option Packet) (receiver sender : ℕ) (after : Packeted)
      → alive_address found ≡ Some (receiver, sender) → comes receiver found ≡ true
      → completed_by found s.wires.nodes ≡ None → after ≡ record s { wires = wires_after_delivery name k found s.wires }
      → Settles (ended off (deliver_acted name (underway s) found)) s effect.Done after
  alive-comes found receiver sender after is runs none came =
      delivery-comes found receiver after after None (alive-receiver found receiver sender is) runs (sym none) came refl

  pub alive-dropped : (found : Option Packet) (receiver sender : ℕ) (after : Packeted)
      → alive_address found ≡ Some (receiver, sender) → comes receiver found ≡ false
      → after ≡ record s { wires = off }
      → Settles (ended off (deliver_acted name (underway s) found)) s effect.Done after
  alive-dropped found receiver sender after is stops same =
      delivery-dropped found receiver after (alive-receiver found receiver sender is) stops same

  arrives : (of : BusName) (packet : Packet) → HaveNumbersLeft s.wires.nodes → CanPush s.wires.nodes
      → CanPush (midst_after_arrival of packet (nothing_sent (without_packet of k s.wires).nodes)).nodes
  arrives bus.X packet left can = can-arrived bus.X packet (nothing_sent s.wires.nodes)
      (λ node there e has. left packet.receiver packet.sender node e there has) can
  arrives bus.Y packet left can = can-arrived bus.Y packet (nothing_sent s.wires.nodes)
      (λ node there e has. left packet.receiver packet.sender node e there has) can

  pub can-delivered : (found : Option Packet) → HaveNumbersLeft s.wires.nodes → CanPush s.wires.nodes
      → CanPush (wires_after_delivery name k found s.wires).nodes
  can-delivered None left can = can
  can-delivered (Some packet) left can = arrives name packet left can

  pub can-hand : (mid : Packeted) (found : Option Packet) → IsReady s
      → mid ≡ record s { wires = wires_after_delivery name k found s.wires } → CanHand mid
  can-hand mid found ready same =
      let can : CanPush s.wires.nodes =
      λ x node there y e has up idle. (ready.numbers x y node e there has).0 in
      subst CanHand (sym same) (record {
        room = ready.room;
        numbered = can-delivered found ready.numbers can;
        messages = ready.messages;
      })

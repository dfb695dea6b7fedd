-- What comes at a node, by the kind of the packet.
use Rattle.std.specs.List.{remove}
use Rattle.std.proofs.Common.{◌≡◌, ℕ, zero, suc, [], ◌∷◌, List, Option, Some, None, Bool, true, false}
use Rattle.std.proofs.Common.{if◌then◌else◌, slice_get, slice_set, refl, ap, ap₂, sym, ◌∙◌}
use Rattle.event_parts.specs.packet_wires.specs.world_semantics.proofs.Lists.{some-same}
use Rattle.schedule.specs.declared.bus_name.BusName.{BusName}
use Rattle.schedule.specs.declared.bus_name.BusName.TheVariants as bus
use Rattle.packet_words.specs.declared.packet.Packet.{Packet}
use Rattle.packet_words.specs.declared.packet.PacketKind.{PacketKind}
use Rattle.packet_words.specs.declared.packet.PacketKind.TheVariants as kind
use Rattle.packet_words.specs.declared.piece.Piece.{Piece}
use Rattle.link_control.specs.Ends.{End, after_kind, handed_by_kind, sent_by_kind}
use Rattle.alive_regroup.specs.Watching as watching
use Rattle.alive_regroup.specs.Watching.{Watching, changed_at}
use Rattle.event_parts.specs.packet_wires.specs.Nodes.{Node, end_at}
use Rattle.event_parts.specs.packet_wires.specs.Play.{message_at_end}
use Rattle.event_parts.specs.packet_wires.specs.Wires.{Wires, Midst, any_goes_over, arrive_at, midst_after_arrival}
use Rattle.event_parts.specs.packet_wires.specs.Wires.{at_end}
use Rattle.event_parts.specs.packet_wires.specs.Wires.{at_end_of, at_node}
use Rattle.event_parts.specs.packet_wires.specs.Wires.{bus_of_answer, end_changed, heard_of, learns, nothing_sent}
use Rattle.event_parts.specs.packet_wires.specs.Wires.{watch_changed}
use Rattle.event_parts.specs.packet_wires.specs.Wires.{on_bus, with_bus, with_sent, without_packet}
use Rattle.event_parts.specs.Parts.{carried_out, completed_by, wires_after_delivery}
use Rattle.node.specs.Calls.{address_if_alive, alive_address, arrive_by}
use Rattle.node.proofs.Ends.{set-same}

-- a node that learns nothing
learns-nothing : (x : ℕ) (midst : Midst) → learns x (λ watch. watch) midst ≡ midst
learns-nothing x midst = by (slice_get midst.nodes x) refl
  where
    by : (found : Option Node) → slice_get midst.nodes x ≡ found
        → at_node (watch_changed x (λ watch. watch)) found midst ≡ midst
    by None is = refl
    by (Some node) is = ap (λ (nodes : List Node). record midst { nodes = nodes }) (set-same midst.nodes x node is)

module _ (name : BusName) (packet : Packet) where
  -- an I'm-alive packet changes no end, and none answers it
  module _ (alive : packet.kind ≡ kind.Alive) where
    alive-sent : (e : End) (down : Bool) → (if down then None else sent_by_kind packet.kind e) ≡ None
    alive-sent e true = refl
    alive-sent e false = ap (λ (k : PacketKind). sent_by_kind k e) alive

    alive-after : (e : End) (down : Bool) → (if down then e else after_kind packet.kind e) ≡ e
    alive-after e true = refl
    alive-after e false = ap (λ (k : PacketKind). after_kind k e) alive

    alive-handed : (e : End) (down : Bool) → (if down then None else handed_by_kind packet.kind e) ≡ None
    alive-handed e true = refl
    alive-handed e false = ap (λ (k : PacketKind). handed_by_kind k e) alive

    alive-end : (midst : Midst) (node : Node) → slice_get midst.nodes packet.receiver ≡ Some node
        → (found : Option End) → slice_get node.ends packet.sender ≡ found
        → at_end_of (arrive_at name packet node) found midst ≡ midst
    alive-end midst node there None is = refl
    alive-end midst node there (Some e) is =
        ap₂ (λ (p : Option Packet) (after : End). any_goes_over (bus_of_answer name packet.kind) p
        (end_changed packet.receiver packet.sender node after midst))
        (alive-sent e e.down) (alive-after e e.down)
        ∙ ap (λ (ends : List End). record midst
        { nodes = slice_set midst.nodes packet.receiver (record node { ends = ends }) })
        (set-same node.ends packet.sender e is)
        ∙ ap (λ (nodes : List Node). record midst { nodes = nodes }) (set-same midst.nodes packet.receiver node there)

    alive-node : (midst : Midst) (found : Option Node) → slice_get midst.nodes packet.receiver ≡ found
        → at_node (λ node. at_end_of (arrive_at name packet node) (slice_get node.ends packet.sender)) found midst
        ≡ midst
    alive-node midst None is = refl
    alive-node midst (Some node) is = alive-end midst node is (slice_get node.ends packet.sender) refl

    pub alive-arrived : (wires : Wires)
        → carried_out (learns packet.receiver (changed_at packet.sender watching.neighbour_after_alive)) wires
        ≡ carried_out (midst_after_arrival name packet) wires
    alive-arrived wires =
        ap (λ (midst : Midst). with_sent midst wires)
        (ap₂ (λ (k : PacketKind) (midst : Midst). learns packet.receiver (heard_of packet.sender k) midst) (sym alive)
        (sym (alive-node (nothing_sent wires.nodes) (slice_get wires.nodes packet.receiver) refl)))

    pub alive-completed : (found : Option End) → None ≡ message_at_end packet found
    alive-completed None = refl
    alive-completed (Some e) = sym (alive-handed e e.down)

  -- a piece is answered over the bus on which it came, an acknowledgement over bus X; neither says anything of the
  -- watch
  by-kind : (k : PacketKind) → packet.kind ≡ k → (heard_of packet.sender k ≡ (λ watch. watch)) → (wires : Wires)
      → carried_out (at_end packet.receiver packet.sender (arrive_by (bus_of_answer name k) packet)) wires
      ≡ carried_out (midst_after_arrival name packet) wires
  by-kind k is silent wires =
      ap (λ (midst : Midst). with_sent midst wires)
      (sym (ap (λ (heard : Watching → Watching). learns packet.receiver heard (at-end-by k)) silent
      ∙ learns-nothing packet.receiver (at-end-by k))
      ∙ ap (λ (j : PacketKind). learns packet.receiver (heard_of packet.sender j) (at-end-by j)) (sym is))
    where
      at-end-by : PacketKind → Midst
      at-end-by j =
          at_end packet.receiver packet.sender (arrive_by (bus_of_answer name j) packet) (nothing_sent wires.nodes)

  pub piece-arrived : (number : ℕ) (piece : Piece) → packet.kind ≡ kind.Piece number piece → (wires : Wires)
      → carried_out (at_end packet.receiver packet.sender (arrive_by name packet)) wires
      ≡ carried_out (midst_after_arrival name packet) wires
  piece-arrived number piece is wires = by-kind (kind.Piece number piece) is refl wires

  pub receipt-arrived : (number : ℕ) → packet.kind ≡ kind.Acknowledgement number → (wires : Wires)
      → carried_out (at_end packet.receiver packet.sender (arrive_by bus.X packet)) wires
      ≡ carried_out (midst_after_arrival name packet) wires
  receipt-arrived number is wires = by-kind (kind.Acknowledgement number) is refl wires

-- a packet that was looked at where it stood, and was an I'm-alive packet
module _ (name : BusName) (k : ℕ) (r s : ℕ) (wires : Wires) where
  address-alive : (packet : Packet) (sort : PacketKind) → packet.kind ≡ sort
      → address_if_alive packet sort ≡ Some (r, s)
      → (packet.kind ≡ kind.Alive) × ((packet.receiver ≡ r) × (packet.sender ≡ s))
  address-alive packet kind.Alive is found =
      let same : (packet.receiver, packet.sender) ≡ (r, s) =
      some-same found in (is, (ap (λ (p : ℕ × ℕ). p.0) same, ap (λ (p : ℕ × ℕ). p.1) same))
  address-alive packet (kind.Piece number piece) is found = absurd cc
  address-alive packet (kind.Acknowledgement number) is found = absurd cc

  pub delivered-alive : (found : Option Packet) → alive_address found ≡ Some (r, s)
      → (carried_out (learns r (changed_at s watching.neighbour_after_alive)) (without_packet name k wires)
      ≡ wires_after_delivery name k found wires) × (None ≡ completed_by found wires.nodes)
  delivered-alive None is = absurd cc
  delivered-alive (Some packet) is =
      let alive = address-alive packet packet.kind refl is in (
        ap₂ (λ (a b : ℕ). carried_out (learns a (changed_at b watching.neighbour_after_alive))
            (without_packet name k wires)) (sym alive.1.0) (sym alive.1.1)
            ∙ alive-arrived name packet alive.0 (without_packet name k wires),
        alive-completed name packet alive.0 (end_at wires.nodes packet.receiver packet.sender),
      )

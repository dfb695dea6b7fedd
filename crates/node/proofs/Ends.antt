-- What happens at an end of a node, by the call of the node.
use Rattle.std.specs.Option.{option_and_then}
use Rattle.std.proofs.Common.{◌≡◌, ℕ, zero, suc, [], ◌∷◌, List, Option, Some, None, Bool, true, false, if◌then◌else◌}
use Rattle.std.proofs.Common.{slice_get, slice_set, refl, ap, ap₂, sym, subst, ◌∙◌}
use Rattle.event_parts.specs.packet_wires.specs.world_semantics.proofs.Lists.{some-same}
use Rattle.schedule.specs.declared.bus_name.BusName.{BusName}
use Rattle.schedule.specs.declared.bus_name.BusName.TheVariants as bus
use Rattle.packet_words.specs.declared.packet.Packet.{Packet}
use Rattle.packet_words.specs.declared.packet.PacketKind.TheVariants as kind
use Rattle.link_control.specs.Ends.{End, alive_of, packet_of}
use Rattle.event_parts.specs.bus_model.specs.Packets.{sent_again}
use Rattle.alive_regroup.specs.declared.set.ProcessorSet.{ProcessorSet}
use Rattle.alive_regroup.specs.Watching as watching
use Rattle.alive_regroup.specs.Watching.{Watching, told_by_tick}
use Rattle.event_parts.specs.packet_wires.specs.Nodes.{Node}
use Rattle.event_parts.specs.packet_wires.specs.Wires.{Wires, Midst, alive_at, at_end, at_end_of, at_node, check_at}
use Rattle.event_parts.specs.packet_wires.specs.Wires.{checks, end_changed}
use Rattle.event_parts.specs.packet_wires.specs.Wires.{goes_over, learns, nothing_sent, on_bus, reports, watch_changed}
use Rattle.event_parts.specs.packet_wires.specs.Wires.{with_bus}
use Rattle.event_parts.specs.packet_wires.specs.Wires.{with_sent}
use Rattle.event_parts.specs.Numbers.{CanPush}
use Rattle.event_parts.specs.Parts.{carried_out, wires_after_repeat}
use Rattle.event_parts.proofs.Numbers.{can-watch}
use Rattle.node.specs.Calls.{both_go, told_at_end, with_end_changed, with_end_if, with_watch_changed}

-- an item put into the place where it stands
pub set-same : {A : Type 0} (xs : List A) (k : ℕ) (x : A) → slice_get xs k ≡ Some x → slice_set xs k x ≡ xs
set-same [] k x there = refl
set-same (y ∷ xs) zero x there = ap (λ one. one ∷ xs) (sym (some-same there))
set-same (y ∷ xs) (suc k) x there = ap (λ rest. y ∷ rest) (set-same xs k x there)

-- wires with a node put into its place
abbrev pub with_node : ℕ → Node → Wires → Wires
with_node x node wires = record wires { nodes = slice_set wires.nodes x node }

-- at an end, which changes, what it tells goes over the buses
abbrev pub does_at : {A : Type 0} → ℕ → ℕ → (End → End) → (End → Option A) → (Option A → Midst → Midst) → Node → End
    → Midst → Midst
does_at x y change tells puts node e midst = puts (tells e) (end_changed x y node (change e) midst)

module _ {A : Type 0} (x y : ℕ) (change : End → End) (tells : End → Option A) (puts : Option A → Midst → Midst)
    (quiet : (midst : Midst) → puts None midst ≡ midst) (wires : Wires) (node : Node)
    (there : slice_get wires.nodes x ≡ Some node) where
  abbrev put-with : Node → Option A → Midst
  put-with after told = puts told (nothing_sent (slice_set wires.nodes x after))

  abbrev at-that : Option Node → Midst
  at-that found = at_node (λ node. at_end_of (does_at x y change tells puts node) (slice_get node.ends y)) found
      (nothing_sent wires.nodes)

  at-found : (found : Option End) → slice_get node.ends y ≡ found
      → put-with (with_end_changed y change node) (told_at_end y tells node)
      ≡ at_end_of (does_at x y change tells puts node) found (nothing_sent wires.nodes)
  at-found None is =
      ap (λ (f : Option End). put-with (with_end_if y change node f) (option_and_then tells f)) is
      ∙ quiet (nothing_sent (slice_set wires.nodes x node))
      ∙ ap nothing_sent (set-same wires.nodes x node there)
  at-found (Some e) is = ap (λ (f : Option End). put-with (with_end_if y change node f) (option_and_then tells f)) is

  -- the node after its call, and what it told put on the buses, is what is done at the end
  pub carried-end : (after : Node) (told : Option A) → after ≡ with_end_changed y change node
      → told ≡ told_at_end y tells node
      → carried_out (puts told) (with_node x after wires)
      ≡ carried_out (at_end x y (does_at x y change tells puts)) wires
  carried-end after told is_after is_told =
      ap (λ (midst : Midst). with_sent midst wires)
      (ap₂ put-with is_after is_told ∙ at-found (slice_get node.ends y) refl ∙ sym (ap at-that there))

-- the same where the end tells nothing
pub carried-quietly : (x y : ℕ) (change : End → End) (wires : Wires) (node : Node)
    → slice_get wires.nodes x ≡ Some node → (after : Node)
    → after ≡ with_end_changed y change node
    → with_node x after wires ≡ carried_out (at_end x y (λ node e midst. end_changed x y node (change e) midst)) wires
carried-quietly x y change wires node there after is_after =
    carried-end {A = Node} x y change (λ e. None) (λ told midst. midst) (λ midst. refl) wires node there after
    (told_at_end y (λ e. None) node) is_after refl

-- a node that tells another one that it is alive
module _ (x y : ℕ) (wires : Wires) (node : Node) (there : slice_get wires.nodes x ≡ Some node) where
  alive-by : (e : End) (down : Bool) (midst : Midst)
      → both_go (if down then None else Some (packet_of e kind.Alive)) midst
      ≡ (if down then midst else goes_over bus.Y (packet_of e kind.Alive)
      (goes_over bus.X (packet_of e kind.Alive) midst))
  alive-by e true midst = refl
  alive-by e false midst = refl

  alive-found : (found : Option End) (midst : Midst)
      → both_go (option_and_then alive_of found) midst ≡ at_end_of (alive_at node) found midst
  alive-found None midst = refl
  alive-found (Some e) midst = alive-by e e.down midst

  abbrev alive-that : Option Node → Midst
  alive-that found =
      at_node (λ node. at_end_of (alive_at node) (slice_get node.ends y)) found (nothing_sent wires.nodes)

  pub carried-alive : carried_out (both_go (told_at_end y alive_of node)) wires
      ≡ carried_out (at_end x y alive_at) wires
  carried-alive =
      ap (λ (midst : Midst). with_sent midst wires)
      (alive-found (slice_get node.ends y) (nothing_sent wires.nodes) ∙ sym (ap alive-that there))

-- a node that learns something
pub carried-learns : (x : ℕ) (change : Watching → Watching) (wires : Wires) (node : Node)
    → slice_get wires.nodes x ≡ Some node → (after : Node)
    → after ≡ with_watch_changed change node → with_node x after wires ≡ carried_out (learns x change) wires
carried-learns x change wires node there after is =
    ap (λ (midst : Midst). with_sent midst wires)
    (ap (λ (n : Node). nothing_sent (slice_set wires.nodes x n)) is
    ∙ sym (ap (λ (found : Option Node). at_node (watch_changed x change) found (nothing_sent wires.nodes)) there))

-- a node that checks, and reports what it found
pub carried-check : (processors x : ℕ) (wires : Wires) (node : Node) → slice_get wires.nodes x ≡ Some node
    → (after : Node) (told : Option ProcessorSet)
    → after ≡ with_watch_changed watching.after_tick node → told ≡ told_by_tick node.watch
    → carried_out (reports processors x told) (with_node x after wires) ≡ carried_out (checks processors x) wires
carried-check processors x wires node there after told is_after is_told =
    ap (λ (midst : Midst). with_sent midst wires)
    (ap₂ (λ (n : Node) (t : Option ProcessorSet). reports processors x t (nothing_sent (slice_set wires.nodes x n)))
    is_after is_told
    ∙ sym (ap (λ (found : Option Node). at_node (check_at processors x) found (nothing_sent wires.nodes)) there))

-- what is pushed goes on to find a number at a node that checks
pub can-checked : (x : ℕ) (wires : Wires) (node : Node) → slice_get wires.nodes x ≡ Some node → (after : Node)
    → after ≡ with_watch_changed watching.after_tick node → CanPush wires.nodes
    → CanPush (slice_set wires.nodes x after)
can-checked x wires node there after is can =
    subst (λ (n : Node). CanPush (slice_set wires.nodes x n)) (sym is)
    (can-watch x node (watching.after_tick node.watch) wires.nodes there can)

-- a packet that is repeated, where it was found
pub repeated-is : (name : BusName) (found : Option Packet) (wires : Wires)
    → with_bus name (sent_again found (on_bus name wires)) wires ≡ wires_after_repeat name found wires
repeated-is bus.X None wires = refl
repeated-is bus.X (Some packet) wires = refl
repeated-is bus.Y None wires = refl
repeated-is bus.Y (Some packet) wires = refl

-- What a node's tick makes of what it knows of the processors.
use Rattle.std.proofs.Common.{◌≡◌, ℕ, ◌==◌, ℤ, Bool, true, false, if◌then◌else◌, List, [], ◌∷◌, Option, Some, None}
use Rattle.std.proofs.Common.{slice_get, slice_set, refl, ap, sym, ◌∙◌}
use Rattle.std.specs.Option.{option_map}
use Rattle.schedule.specs.declared.bus_name.BusName.{BusName}
use Rattle.schedule.specs.declared.bus_name.BusName.TheVariants as bus
use Rattle.packet_words.specs.declared.packet.Packet.{Packet}
use Rattle.packet_words.specs.declared.packet.PacketKind.TheVariants as kind
use Rattle.link_control.specs.declared.channel.Resent.{Resent}
use Rattle.link_control.specs.Ends.{End, packet_of, after_push, sent_by_push, after_tick, sent_by_tick}
use Rattle.alive_regroup.specs.declared.set.ProcessorSet.{ProcessorSet}
use Rattle.alive_regroup.specs.Watching as watching
use Rattle.alive_regroup.specs.Watching.{told_by_tick}
use Rattle.packet_wires.specs.world_semantics.specs.World.{terminal_node}
use Rattle.packet_wires.specs.world_semantics.proofs.Lists.{set-there}
use Rattle.packet_wires.specs.message_layout.specs.Messages.{Reporting}
use Rattle.packet_wires.specs.message_layout.specs.Layout.{words_of}
use Rattle.packet_wires.specs.Nodes.{Node, all_nodes, others, with_end}
use Rattle.packet_wires.specs.Wires.{Midst, goes_over, any_goes_over, goes_again, at_node, at_end_of, at_end}
use Rattle.packet_wires.specs.Wires.{end_changed, watch_changed, for_each, push_at, sends, alive_at}
use Rattle.packet_wires.specs.Wires.{tells_alive, reports, check_at, checks, tick_at, midst_after_tick}
use Rattle.event_parts.specs.Parts.{watch_at}

any-nodes : (name : BusName) (told : Option Packet) (midst : Midst)
    → (any_goes_over name told midst).nodes ≡ midst.nodes
any-nodes name None midst = refl
any-nodes name (Some packet) midst = refl

again-nodes : (told : Option Resent) (midst : Midst) → (goes_again told midst).nodes ≡ midst.nodes
again-nodes None midst = refl
again-nodes (Some resent) midst = refl

module _ (x : ℕ) where
  abbrev Stays : (Midst → Midst) → Type 0
  Stays part = (midst : Midst) → watch_at (part midst).nodes x ≡ watch_at midst.nodes x

  end-stays : (y : ℕ) (node : Node) (e : End) (nodes : List Node) → slice_get nodes x ≡ Some node
      → watch_at (with_end x y node e nodes) x ≡ watch_at nodes x
  end-stays y node e nodes there =
      ap (option_map (λ (one : Node). one.watch))
      (set-there nodes x node (record node { ends = slice_set node.ends y e }) there)
      ∙ sym (ap (option_map (λ (one : Node). one.watch)) there)

  at-end-stays : (y : ℕ) (does : Node → End → Midst → Midst)
      → ((node : Node) (e : End) (midst : Midst) → slice_get midst.nodes x ≡ Some node
      → watch_at (does node e midst).nodes x ≡ watch_at midst.nodes x)
      → Stays (at_end x y does)
  at-end-stays y does stays midst = by (slice_get midst.nodes x) refl
    where
      of : (node : Node) → slice_get midst.nodes x ≡ Some node → (found : Option End)
          → watch_at (at_end_of (does node) found midst).nodes x ≡ watch_at midst.nodes x
      of node there None = refl
      of node there (Some e) = stays node e midst there

      by : (found : Option Node) → slice_get midst.nodes x ≡ found
          → watch_at (at_node (λ node. at_end_of (does node) (slice_get node.ends y)) found midst).nodes x
          ≡ watch_at midst.nodes x
      by None is = refl
      by (Some node) is = of node is (slice_get node.ends y)

  each-stays : (does : ℕ → Midst → Midst) → ((y : ℕ) → Stays (does y)) → (ys : List ℕ) → Stays (for_each does ys)
  each-stays does stays [] midst = refl
  each-stays does stays (y ∷ ys) midst = each-stays does stays ys (does y midst) ∙ stays y midst

  push-stays : (y : ℕ) (words : List ℤ) → Stays (at_end x y (push_at x y words))
  push-stays y words = at-end-stays y (push_at x y words) (λ node e midst there.
      ap (λ (nodes : List Node). watch_at nodes x)
      (any-nodes bus.X (sent_by_push words e) (end_changed x y node (after_push words e) midst))
      ∙ end-stays y node (after_push words e) midst.nodes there)

  tick-stays : (y : ℕ) → Stays (at_end x y (tick_at x y))
  tick-stays y = at-end-stays y (tick_at x y) (λ node e midst there.
      ap (λ (nodes : List Node). watch_at nodes x)
      (again-nodes (sent_by_tick e) (end_changed x y node (after_tick e) midst))
      ∙ end-stays y node (after_tick e) midst.nodes there)

  alive-stays : (y : ℕ) → Stays (at_end x y alive_at)
  alive-stays y = at-end-stays y alive_at (λ node e midst there. by e midst e.down)
    where
      by : (e : End) (midst : Midst) (down : Bool)
          → watch_at (if down then midst else goes_over bus.Y (packet_of e kind.Alive)
          (goes_over bus.X (packet_of e kind.Alive) midst)).nodes x ≡ watch_at midst.nodes x
      by e midst true = refl
      by e midst false = refl

  tells-stays : (processors : ℕ) → Stays (tells_alive processors x)
  tells-stays processors midst = by (x == terminal_node)
    where
      by : (test : Bool) → watch_at (if test then midst else for_each (λ y. at_end x y alive_at) (others processors x)
          midst).nodes x ≡ watch_at midst.nodes x
      by true = refl
      by false = each-stays (λ y. at_end x y alive_at) alive-stays (others processors x) midst

  reports-stays : (processors : ℕ) (told : Option ProcessorSet) → Stays (reports processors x told)
  reports-stays processors None midst = refl
  reports-stays processors (Some silent) midst =
      each-stays (λ y. sends x y (Reporting x silent)) (λ y. push-stays y (words_of (Reporting x silent)))
      (others processors x) midst

  checks-once : (processors : ℕ) (midst : Midst)
      → watch_at (checks processors x midst).nodes x ≡ option_map watching.after_tick (watch_at midst.nodes x)
  checks-once processors midst = by (slice_get midst.nodes x) refl
    where
      by : (found : Option Node) → slice_get midst.nodes x ≡ found
          → watch_at (at_node (check_at processors x) found midst).nodes x
          ≡ option_map watching.after_tick (watch_at midst.nodes x)
      by None is =
          ap (option_map (λ (one : Node). one.watch)) is
          ∙ sym (ap (λ (f : Option Node). option_map watching.after_tick
          (option_map (λ (one : Node). one.watch) f)) is)
      by (Some node) is =
          reports-stays processors (told_by_tick node.watch) (watch_changed x watching.after_tick node midst)
          ∙ ap (option_map (λ (one : Node). one.watch))
          (set-there midst.nodes x node (record node { watch = watching.after_tick node.watch }) is)
          ∙ sym (ap (λ (f : Option Node). option_map watching.after_tick (option_map (λ (one : Node). one.watch) f)) is)

  pub ticked-once : (processors : ℕ) (midst : Midst)
      → watch_at (midst_after_tick processors x midst).nodes x ≡ option_map watching.after_tick (watch_at midst.nodes x)
  ticked-once processors midst =
      each-stays (λ y. at_end x y (tick_at x y)) tick-stays all_nodes
      (checks processors x (tells_alive processors x midst))
      ∙ checks-once processors (tells_alive processors x midst)
      ∙ ap (option_map watching.after_tick) (tells-stays processors midst)

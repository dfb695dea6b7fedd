-- A tick at ends that hold nothing.
use Rattle.std.specs.Option.{option_and_then, option_map}
use Rattle.std.proofs.Common.{◌≡◌, ℕ, zero, suc, ◌+◌, ◌-◌, ◌≤◌, ◌<◌, arith, ◌&&◌, not, Bool, true, false, if◌then◌else◌}
use Rattle.std.proofs.Common.{List, Option}
use Rattle.std.proofs.Common.{Some, None, slice_get, slice_set, refl, ap, ap₂, sym, ◌∙◌}
use Rattle.schedule.specs.Buses.{other_bus}
use Rattle.link_control.specs.declared.channel.Resent.{Resent}
use Rattle.link_control.specs.Ends.{End, after_tick, is_empty, is_idle, packet_outstanding, sent_by_tick, after_tick_of}
use Rattle.event_parts.specs.packet_wires.specs.Idle.{holds_nothing}
use Rattle.event_parts.specs.packet_wires.specs.Nodes.{Node, end_at, numbers}
use Rattle.event_parts.specs.packet_wires.specs.Wires.{Wires, Midst, at_end, at_end_of, at_node, end_changed, for_each}
use Rattle.event_parts.specs.packet_wires.specs.Wires.{goes_again}
use Rattle.event_parts.specs.packet_wires.specs.Wires.{nothing_sent, tick_at, with_sent}
use Rattle.event_parts.specs.Parts.{carried_out}
use Rattle.node.proofs.Ends.{set-same}

tick-same : (e : End) → is_empty e ≡ true → after_tick e ≡ e
tick-same e empty = by e.down
  where
    by : (down : Bool) → (if down then e else record e { sending = after_tick_of e.sending }) ≡ e
    by true = refl
    by false =
        ap (λ (idle : Bool). record e {
          sending =
              if idle then e.sending else if e.sending.waited then record e.sending
              { resend_bus = other_bus e.sending.resend_bus } else record e.sending { waited = true };
        }) empty

tick-silent : (e : End) → is_empty e ≡ true → sent_by_tick e ≡ None
tick-silent e empty = by e.down
  where
    sent : Bool → Option Resent
    sent idle = if not idle && e.sending.waited then option_map
        (λ packet. record { bus = e.sending.resend_bus; packet = packet }) (packet_outstanding e) else None

    by : (down : Bool) → (if down then None else sent (is_idle e.sending)) ≡ None
    by true = refl
    by false = ap sent empty

module _ (x y : ℕ) (midst : Midst) where
  quiet-end : ((node : Node) (e : End) → slice_get midst.nodes x ≡ Some node → slice_get node.ends y ≡ Some e
      → is_empty e ≡ true)
      → at_end x y (tick_at x y) midst ≡ midst
  quiet-end quiet = by (slice_get midst.nodes x) refl
    where
      of : (node : Node) → slice_get midst.nodes x ≡ Some node → (found : Option End) → slice_get node.ends y ≡ found
          → at_end_of (tick_at x y node) found midst ≡ midst
      of node there None is = refl
      of node there (Some e) is =
          let empty : is_empty e ≡ true = quiet node e there is in
          ap₂ (λ (told : Option Resent) (after : End). goes_again told (end_changed x y node after midst))
          (tick-silent e empty) (tick-same e empty)
          ∙ ap (λ (ends : List End). record midst { nodes = slice_set midst.nodes x (record node { ends = ends }) })
          (set-same node.ends y e is)
          ∙ ap (λ (nodes : List Node). record midst { nodes = nodes }) (set-same midst.nodes x node there)

      by : (found : Option Node) → slice_get midst.nodes x ≡ found
          → at_node (λ node. at_end_of (tick_at x y node) (slice_get node.ends y)) found midst ≡ midst
      by None is = refl
      by (Some node) is = of node is (slice_get node.ends y) refl

holds-none : (x y : ℕ) (nodes : List Node) (node : Node) (e : End) → slice_get nodes x ≡ Some node
    → slice_get node.ends y ≡ Some e → holds_nothing (end_at nodes x y) ≡ true
    → is_empty e ≡ true
holds-none x y nodes node e there is nothing =
    sym
    (ap (λ (found : Option Node). holds_nothing (option_and_then (λ (one : Node). slice_get one.ends y) found)) there
    ∙ ap holds_nothing is)
    ∙ nothing

skipped-each : (x : ℕ) (midst : Midst) (skipped from left : ℕ)
    → ((y : ℕ) → from ≤ y → y < from + skipped → holds_nothing (end_at midst.nodes x y) ≡ true)
    → for_each (λ y. at_end x y (tick_at x y)) (numbers from (skipped + left)) midst
    ≡ for_each (λ y. at_end x y (tick_at x y)) (numbers (from + skipped) left) midst
skipped-each x midst zero from left nothing =
    let none : 0 + left ≡ left = omega arith in
    let same : from ≡ from + 0 = omega arith in
    ap (λ k. for_each (λ y. at_end x y (tick_at x y)) (numbers from k) midst) none
    ∙ ap (λ k. for_each (λ y. at_end x y (tick_at x y)) (numbers k left) midst) same
skipped-each x midst (suc skipped) from left nothing =
    let more : suc skipped + left ≡ suc (skipped + left) = omega arith in
    let same : from + 1 + skipped ≡ from + suc skipped = omega arith in
    ap (λ k. for_each (λ y. at_end x y (tick_at x y)) (numbers from k) midst) more
    ∙ ap (for_each (λ y. at_end x y (tick_at x y)) (numbers (from + 1) (skipped + left)))
    (quiet-end x from midst
    (λ node e there is. holds-none x from midst.nodes node e there is (nothing from (omega arith) (omega arith))))
    ∙ skipped-each x midst skipped (from + 1) left (λ y low high. nothing y (omega (arith, low)) (omega (arith, high)))
    ∙ ap (λ k. for_each (λ y. at_end x y (tick_at x y)) (numbers k left) midst) same

-- ticks at ends that hold nothing are passed over
pub skipped-ticks : (x from to : ℕ) (wires : Wires) → from ≤ to → to ≤ 17
    → ((y : ℕ) → from ≤ y → y < to → holds_nothing (end_at wires.nodes x y) ≡ true)
    → carried_out (for_each (λ y. at_end x y (tick_at x y)) (numbers from (17 - from))) wires
    ≡ carried_out (for_each (λ y. at_end x y (tick_at x y)) (numbers to (17 - to))) wires
skipped-ticks x from to wires low high nothing =
    let all : 17 - from ≡ (to - from) + (17 - to) = omega (arith, low, high) in
    let there : from + (to - from) ≡ to = omega (arith, low) in
    ap (λ (k : ℕ). carried_out (for_each (λ y. at_end x y (tick_at x y)) (numbers from k)) wires) all
    ∙ ap (λ (midst : Midst). with_sent midst wires)
    (skipped-each x (nothing_sent wires.nodes) (to - from) from (17 - to)
    (λ y least most. nothing y least (omega (arith, most, low))))
    ∙ ap (λ (k : ℕ). carried_out (for_each (λ y. at_end x y (tick_at x y)) (numbers k (17 - to))) wires) there

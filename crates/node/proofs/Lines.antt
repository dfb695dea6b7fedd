-- The line that a node pulls.
use Rattle.std.specs.Option.{option_and_then, option_map}
use Rattle.std.proofs.Common.{◌≡◌, ℕ, zero, suc, ◌+◌, ◌==◌, ◌&&◌, not, Bool, true, false, if◌then◌else◌, List}
use Rattle.std.proofs.Common.{Option, Some}
use Rattle.std.proofs.Common.{None, slice_get, refl, ap, sym, ◌∙◌}
use Rattle.alive_regroup.specs.Watching as watching
use Rattle.alive_regroup.specs.Watching.{Watching, is_held}
use Rattle.event_parts.specs.packet_wires.specs.Lines.{first_held, line_pulled}
use Rattle.event_parts.specs.packet_wires.specs.Nodes.{Node}
use Rattle.event_parts.specs.packet_wires.specs.Wires.{nothing_sent, midst_after_tick}
use Rattle.event_parts.proofs.Watches.{ticked-once}
use Rattle.node.specs.Calls.{with_watch_changed}

pub held-turn : (me : ℕ) (watch : Watching) (processor m n : ℕ) (test : Bool) → m ≡ suc n
    → test ≡ (not (processor == me) && is_held processor watch)
    → first_held me watch processor m ≡ (if test then Some processor else first_held me watch (processor + 1) n)
held-turn me watch processor m n test count is =
    ap (first_held me watch processor) count ∙ go (processor == me) (is_held processor watch)
    ∙ sym (ap (λ (b : Bool). if b then Some processor else first_held me watch (processor + 1) n) is)
  where
    go : (same held : Bool)
        → (if same then first_held me watch (processor + 1) n else if held then Some processor else first_held me watch
        (processor + 1) n)
        ≡ (if not same && held then Some processor else first_held me watch (processor + 1) n)
    go true held = refl
    go false true = refl
    go false false = refl

either-way : (same : Bool) (rest : Option ℕ) → None ≡ rest → None ≡ (if same then rest else rest)
either-way true rest none = none
either-way false rest none = none

-- where all agree of no processor, no line is pulled
pub none-first : (me : ℕ) (watch : Watching) (processor more : ℕ) → ((p : ℕ) → is_held p watch ≡ false)
    → None ≡ first_held me watch processor more
none-first me watch processor zero none = refl
none-first me watch processor (suc more) none =
    either-way (processor == me) (first_held me watch (processor + 1) more)
    (none-first me watch (processor + 1) more none)
    ∙ sym (ap (λ (held : Bool). if processor == me then first_held me watch (processor + 1) more
    else if held then Some processor else first_held me watch (processor + 1) more) (none processor))

line-of : (x : ℕ) (found : Option Node)
    → option_and_then (line_pulled x) found
    ≡ option_and_then (λ watch. first_held x watch 0 16) (option_map (λ (node : Node). node.watch) found)
line-of x None = refl
line-of x (Some node) = refl

line-later : (x : ℕ) (found : Option Node)
    → option_and_then (λ node. line_pulled x (with_watch_changed watching.after_tick node)) found
    ≡ option_and_then (λ watch. first_held x watch 0 16)
    (option_map watching.after_tick (option_map (λ (node : Node). node.watch) found))
line-later x None = refl
line-later x (Some node) = refl

pub line-ticked : (processors x : ℕ) (nodes : List Node)
    → option_and_then (λ node. line_pulled x (with_watch_changed watching.after_tick node)) (slice_get nodes x)
    ≡ option_and_then (line_pulled x) (slice_get (midst_after_tick processors x (nothing_sent nodes)).nodes x)
line-ticked processors x nodes =
    line-later x (slice_get nodes x)
    ∙ sym (ap (option_and_then (λ watch. first_held x watch 0 16)) (ticked-once x processors (nothing_sent nodes)))
    ∙ sym (line-of x (slice_get (midst_after_tick processors x (nothing_sent nodes)).nodes x))

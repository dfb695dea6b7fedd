-- A node of which one end was changed, and what that end tells.
use Rattle.std.specs.Option.{option_and_then}
use Rattle.std.proofs.Common.{◌≡◌, ◌∙◌, ℕ, List, Option, Some, slice_get, slice_set, ap, ap₂, sym}
use Rattle.alive_regroup.specs.Watching.{Watching}
use Rattle.link_control.specs.Ends.{End}
use Rattle.event_parts.specs.packet_wires.specs.Nodes.{Node}
use Rattle.node.specs.Calls.{told_at_end, with_end_changed, with_end_if}

module _ (y place : ℕ) (ends : List End) (watch : Watching) (e : End) (now : Node) (same : place ≡ y)
    (there : slice_get ends place ≡ Some e) (is : record { ends = ends; watch = watch } ≡ now) where
  pub end-changed : (change : End → End) (after : End) → after ≡ change e
      → record { ends = slice_set ends place after; watch = watch } ≡ with_end_changed y change now
  end-changed change after becomes =
      ap (λ (one : End). record { ends = slice_set ends place one; watch = watch }) becomes
      ∙ sym (ap (with_end_if place change (record { ends = ends; watch = watch })) there)
      ∙ ap₂ (λ (x : ℕ) (node : Node). with_end_changed x change node) same is

  pub end-told : {A : Type 0} (tells : End → Option A) (told : Option A) → told ≡ tells e
      → told ≡ told_at_end y tells now
  end-told tells told says =
      says ∙ sym (ap (option_and_then tells) there) ∙ ap₂ (λ (x : ℕ) (node : Node). told_at_end x tells node) same is

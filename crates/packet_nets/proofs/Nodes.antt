-- One end of one node changes.
use Rattle.std.proofs.Common.{◌≡◌, ℕ, zero, suc, List, Option, Some, slice_get, slice_set, refl, ap, sym, subst, ◌∙◌}
use Rattle.std.specs.Option.{option_and_then}
use Rattle.world_semantics.proofs.Lists.{set-there, set-other}
use Rattle.link_control.specs.Ends.{End}
use Rattle.alive_regroup.specs.Watching.{Watching}
use Rattle.packet_wires.specs.Nodes.{Node, end_at, with_end, with_watch}

-- two numbers are the same, or they differ
pub data Same (a b : ℕ) : Type 0 where
  are : a ≡ b → Same a b
  differ : (a ≡ b → ⊥) → Same a b

pub same : (a b : ℕ) → Same a b
same zero zero = are refl
same zero (suc b) = differ (λ e. cc)
same (suc a) zero = differ (λ e. cc)
same (suc a) (suc b) = up (same a b)
  where
    up : Same a b → Same (suc a) (suc b)
    up (are e) = are (ap suc e)
    up (differ n) = differ (λ e. n (ap (λ k. pred k) e))
      where
        pred : ℕ → ℕ
        pred zero = zero
        pred (suc k) = k

module _ (nodes : List Node) (x y : ℕ) (node : Node) (e0 e : End) (there : slice_get nodes x ≡ Some node)
    (has : slice_get node.ends y ≡ Some e0) where
  abbrev new-node : Node
  new-node = record node { ends = slice_set node.ends y e }

  -- the changed end is the new one
  pub end-new : end_at (with_end x y node e nodes) x y ≡ Some e
  end-new = ap (option_and_then (λ (one : Node). slice_get one.ends y)) (set-there nodes x node new-node there)
      ∙ set-there node.ends y e0 e has

  pub end-was : end_at nodes x y ≡ Some e0
  end-was = ap (option_and_then (λ (one : Node). slice_get one.ends y)) there ∙ has

  -- no other end changed
  pub end-other : (a b : ℕ) → (a ≡ x → b ≡ y → ⊥) → end_at (with_end x y node e nodes) a b ≡ end_at nodes a b
  end-other a b n = by (same x a)
    where
      at : (z : ℕ) → Option Node → Option End
      at z one = option_and_then (λ (one : Node). slice_get one.ends z) one

      by : Same x a → end_at (with_end x y node e nodes) a b ≡ end_at nodes a b
      by (differ m) = ap (at b) (set-other nodes x a new-node m)
      by (are s) =
          subst (λ c. end_at (with_end x y node e nodes) c b ≡ end_at nodes c b) s
          (ap (at b) (set-there nodes x node new-node there) ∙ set-other node.ends y b e (λ t. n (sym s) (sym t))
          ∙ sym (ap (at b) there))

-- ends don't change with a watch
pub end-watch : (nodes : List Node) (x : ℕ) (node : Node) (watch : Watching) → slice_get nodes x ≡ Some node → (a b : ℕ)
    → end_at (with_watch x node watch nodes) a b ≡ end_at nodes a b
end-watch nodes x node watch there a b = by (same x a)
  where
    at : Option Node → Option End
    at one = option_and_then (λ (one : Node). slice_get one.ends b) one

    by : Same x a → end_at (with_watch x node watch nodes) a b ≡ end_at nodes a b
    by (differ m) = ap at (set-other nodes x a (record node { watch = watch }) m)
    by (are s) =
        subst (λ c. end_at (with_watch x node watch nodes) c b ≡ end_at nodes c b) s
        (ap at (set-there nodes x node (record node { watch = watch }) there) ∙ sym (ap at there))

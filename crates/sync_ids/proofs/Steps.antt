-- The end of the loop over openers.
use Rattle.std.proofs.Common.{◌≡◌, ℕ, ◌≤◌, List, [], ◌∷◌, length, drop, Option, refl, ap, ◌∙◌}
use Rattle.std.proofs.lemmas.List.{drop_all}
use Rattle.checkpoint_image.specs.declared.receive.OpenerBlock.{OpenerBlock}
use Rattle.sync_ids.specs.Changes.{changes_from}

-- no later opener is left
pub step-last : (before now : Option ℕ) (olds news : List OpenerBlock) (k : ℕ) → length news ≤ k
    → changes_from before now k (drop k olds) (drop k news) ≡ []
step-last before now olds news k past =
    ap (λ (ns : List OpenerBlock). changes_from before now k (drop k olds) ns) (drop_all k news past)
    ∙ by (drop k olds)
  where
    by : (os : List OpenerBlock) → changes_from before now k os [] ≡ []
    by [] = refl
    by (old ∷ os) = refl

-- Nothing is set where no words are left.
use Rattle.std.proofs.Common.{◌≡◌, ℕ, ℤ, List, [], ◌∷◌, refl}
use Rattle.global_changes.specs.Changes.{item_set}

pub none_left : (item place : ℕ) (before : List ℤ) → item_set item place before [] ≡ []
none_left item place [] = refl
none_left item place (word ∷ before) = refl

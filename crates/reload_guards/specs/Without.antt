-- Runs in which nothing is loaded again.
use Rattle.std.specs.Prelude.{◌≡◌, ℕ, slice_get, Some, true}
use Rattle.world_semantics.specs.World.{World}

-- no processor was ever loaded again
abbrev pub HasNoReload : World → Type 0
HasNoReload w = (processor times : ℕ) → slice_get w.reloads processor ≡ Some times → times ≡ 0

-- no processor has stopped
abbrev pub HasNoStop : World → Type 0
HasNoStop w = (processor : ℕ) → slice_get w.stopped processor ≡ Some true → ⊥

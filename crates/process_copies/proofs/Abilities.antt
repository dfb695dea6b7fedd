-- Whether a process can make a step, by what its copies can do.
use Rattle.std.proofs.Common.{◌≡◌, ℕ, Option, Some, None, refl}
use Rattle.std.specs.Prelude.{is_some}
use Rattle.std.specs.Option.{option_map}
use Rattle.world_semantics.specs.declared.which.Which.{Which}
use Rattle.world_semantics.specs.World.{Pair}
use Rattle.world_semantics.specs.Records.{Records}
use Rattle.world_semantics.specs.Running.{Own, own_step}

is-told : {A B : Type 0} (f : A → B) (o : Option A) → is_some (option_map f o) ≡ is_some o
is-told f None = refl
is-told f (Some x) = refl

-- whether a copy can do an act of its own, where it is free
pub by-act : (number : ℕ) (k : Which) (pair : Pair) (records : Records) (own : Option Own)
    → is_some (option_map (own_step number k pair records) own) ≡ is_some own
by-act number k pair records own = is-told (own_step number k pair records) own

-- Whether a terminal can enter and a process can run, told by what is looked up.
use Rattle.std.proofs.Common.{◌≡◌, ℕ, ◌&&◌, ℤ, List, Option, Some, None, is_some, slice_get, refl, ap, ap₂, sym, ◌∙◌}
use Rattle.std.specs.Option.{option_map}
use Rattle.tal_tree.specs.declared.site.Site.{Site}
use Rattle.plain_semantics.specs.declared.slot.Opener.{Opener}
use Rattle.world_semantics.specs.World.{Terminal, World}
use Rattle.world_semantics.specs.Running.{in_world, run_done, run_pair, step_of}
use Rattle.process_copies.specs.computed_changes.specs.Entered.{enter_to}
use Rattle.process_copies.specs.Seen.{Placed}
use Rattle.world_semantics.specs.Records.{records_of}
use Rattle.world_copies.specs.Seen.{pairs_in}
use Rattle.world_copies.proofs.Places.{pair-at}

-- a terminal enters where it is an opener and has a request left
pub enters : (number : ℕ) (terminal : Terminal) (w : World) (words : Option (List ℤ)) (opener : Option Opener)
    → is_some (enter_to number terminal w words opener) ≡ (is_some opener && is_some words)
enters number terminal w words None = refl
enters number terminal w None (Some opener) = refl
enters number terminal w (Some words) (Some opener) = refl

some-map : {A B : Type 0} (f : A → B) (o : Option A) → is_some (option_map f o) ≡ is_some o
some-map f None = refl
some-map f (Some x) = refl

-- a process that is found in its place runs where it can make a step
pub runs-found : (site : Site) (places : List Placed) (w : World) (k : ℕ) (before : Placed)
    → w.processes ≡ pairs_in places
    → slice_get places k ≡ Some before → before.site ≡ site → before.number ≡ k
    → is_some (run_done site k w) ≡ is_some (step_of before.site before.number before.pair w.downs (records_of w))
runs-found site places w k before pairs there same_site same_number =
    ap (λ pair. is_some (run_pair site k w pair))
    (ap (λ pairs. slice_get pairs k) pairs ∙ pair-at places k
    ∙ ap (option_map (λ (placed : Placed). placed.pair)) there)
    ∙ some-map (in_world k w) (step_of site k before.pair w.downs (records_of w))
    ∙ ap₂ (λ at number. is_some (step_of at number before.pair w.downs (records_of w))) (sym same_site)
    (sym same_number)

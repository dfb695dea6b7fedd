-- Where no processor has stopped, none is marked.
use Rattle.std.proofs.Common.{◌≡◌, ℕ, zero, suc, ◌+◌, Bool, true, false, List, [], ◌∷◌, None, refl, ap}
use Rattle.std.proofs.Common.{◌∙◌, slice_get}
use Rattle.message_wires.specs.computed_changes.specs.Stopped.{mark_where}
use Rattle.message_wires.specs.Play.{MachineState, some_has_stopped, marked_by, marks_from}
use Rattle.world_semantics.specs.World.{World}

-- none of these processors has stopped, whichever is asked for
none-there : (node processor : ℕ) (w : World) (stopped : List Bool) (place : ℕ) → some_has_stopped stopped ≡ false
    → mark_where node processor w (slice_get stopped place) ≡ None
none-there node processor w [] place none = refl
none-there node processor w (true ∷ rest) place none = absurd (cc)
none-there node processor w (false ∷ rest) zero none = refl
none-there node processor w (false ∷ rest) (suc place) none = none-there node processor w rest place none

pub none-marked : (node place more : ℕ) (s : MachineState) → some_has_stopped s.world.stopped ≡ false
    → marks_from node place more s ≡ s
none-marked node place zero s none = refl
none-marked node place (suc more) s none =
    ap (λ done. marks_from node (place + 1) more (marked_by node place s done))
    (none-there node place s.world s.world.stopped place none)
    ∙ none-marked node (place + 1) more s none

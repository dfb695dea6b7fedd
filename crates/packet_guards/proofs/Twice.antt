-- Nobody is marked twice.
use Rattle.std.proofs.Common.{◌≡◌, ℕ, Bool, true, false, ◌&&◌, not, Option, Some, None, refl, ap, ◌∙◌}
use Rattle.std.proofs.Common.{slice_get}
use Rattle.world_semantics.specs.World.{has_marked, is_running}
use Rattle.computed_changes.specs.Stopped.{marked_where, mark_where, may_mark}
use Rattle.message_layout.specs.Messages.{Declaring}
use Rattle.packet_wires.specs.Play.{Underway, handed, marked_by}

pub no-mark-on-suspicion-twice : (node processor : ℕ) (s : Underway) → has_marked s.world.downs node processor ≡ true
    → handed node (Declaring processor) s ≡ s
no-mark-on-suspicion-twice node processor s marked = by (slice_get s.world.stopped processor)
  where
    either : (runs : Bool) → (runs && not true) ≡ false
    either true = refl
    either false = refl

    never : may_mark node processor s.world ≡ false
    never = ap (λ (b : Bool). is_running s.world.stopped node && not b) marked
        ∙ either (is_running s.world.stopped node)

    by : (found : Option Bool) → marked_by node processor s (mark_where node processor s.world found) ≡ s
    by None = refl
    by (Some false) = refl
    by (Some true) = ap (λ (b : Bool). marked_by node processor s (marked_where node processor s.world b)) never

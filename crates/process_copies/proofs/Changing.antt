-- A checkpoint that comes to a copy as what changed is the step that is defined.
use Rattle.std.proofs.Common.{◌≡◌, Bool, true, false, [], ◌∷◌, Option, Some, None, is_some, refl, ap, ◌∙◌}
use Rattle.std.specs.Option.{option_and_then, option_map}
use Rattle.node_copies.specs.change_layout.specs.Changing.{whole_of, whole_where}
use Rattle.node_copies.specs.change_layout.specs.declared.message.ChangeMessage.{ChangeMessage}
use Rattle.world_semantics.specs.checkpoint_image.specs.declared.message.TakenMessage.{TakenMessage}
use Rattle.node_copies.specs.computed_changes.specs.Changed.{change_step}
use Rattle.node_copies.specs.computed_changes.specs.Checkpoints.{applied_step, checkpoint_step, core_as}
use Rattle.node_copies.specs.computed_changes.specs.Fitting.{depths_of}
use Rattle.node_copies.specs.sync_ids.specs.Changes.{fits_change}
use Rattle.world_semantics.specs.declared.which.Which.{Which}
use Rattle.world_semantics.specs.Core.{Core}
use Rattle.world_semantics.specs.World.{copy_of}
use Rattle.world_semantics.specs.Messages.{Taking, sent_at}
use Rattle.world_semantics.specs.Records.{Records}
use Rattle.world_semantics.specs.Running.{Stepped}
use Rattle.node_copies.specs.Receiving.{copy_applying, copy_changing}
use Rattle.node_copies.specs.Seen.{step_sendings}
use Rattle.node_copies.specs.declared.step.StepOutcome.{StepOutcome}
use Rattle.process_copies.specs.Receiving.{Settles, core_changed_by, placed_with, taken_by_change}
use Rattle.process_copies.specs.Seen.{Placed}
use Rattle.process_copies.proofs.Applying.{covered_by, kept_after, settles-taken}

module _ (old : Placed) (k : Which) (change : ChangeMessage) where
  -- whether the change fits the table of the copy
  abbrev fit : Bool
  fit =
      fits_change (record { table = (copy_of k old.pair).core.receive; depths = depths_of old.site old.number })
      change.image.receive

  -- the core of the copy and the step, told of whether it does
  abbrev core_if : Bool → Option Core
  core_if b =
      option_and_then (λ message. core_as (depths_of old.site old.number) (copy_of k old.pair).era
      (copy_of k old.pair).number (copy_of k old.pair).core message (copy_of k old.pair).role)
      (whole_where (depths_of old.site old.number) (copy_of k old.pair).core.receive change b)

  abbrev step_if : Records → Bool → Option Stepped
  step_if before b =
      option_and_then (λ message. checkpoint_step old.site old.number k old.pair before message
      (copy_of k old.pair).role)
      (whole_where (depths_of old.site old.number) (copy_of k old.pair).core.receive change b)

  none-of : (before : Records) (core : Option Core) → is_some core ≡ false
      → option_map (applied_step old.number k old.pair before
      (whole_of (depths_of old.site old.number) (copy_of k old.pair).core.receive change)) core ≡ None
  none-of before None none = refl
  none-of before (Some core) none = absurd (cc)

  refused-if : (before : Records) (b : Bool) → is_some (core_if b) ≡ false → step_if before b ≡ None
  refused-if before false none = refl
  refused-if before true none = none-of before (core_if true) none

  pub change_refused : (before : Records) → is_some (core_changed_by k old change) ≡ false
      → change_step old.site old.number old.pair before change k ≡ None
  change_refused before none = refused-if before fit none

  -- a copy takes no more of the whole checkpoint than of the change
  same-copy : (core : Option Core) → copy_changing (copy_of k old.pair) change core
      ≡ copy_applying (copy_of k old.pair)
      (whole_of (depths_of old.site old.number) (copy_of k old.pair).core.receive change) core
  same-copy None = refl
  same-copy (Some core) = refl

  changed-if : (mid new : Placed) (taken : TakenMessage) (before after : Records) (step : StepOutcome) (b : Bool)
      → taken ≡ taken_by_change change → is_some (core_if b) ≡ true
      → mid ≡ placed_with k (copy_changing (copy_of k old.pair) change (core_if b)) old
      → step_sendings step ≡ Some (sent_at (copy_of k mid.pair).processor (Taking taken ∷ []))
      → new ≡ covered_by k taken before mid → after ≡ kept_after k before mid
      → Settles (step_if before b) old before step new after
  changed-if mid new taken before after step false is some put told process records = absurd (cc)
  changed-if mid new taken before after step true is some put told process records =
      settles-taken old mid new k (whole_of (depths_of old.site old.number) (copy_of k old.pair).core.receive change)
      taken before after step is some
      (put ∙ ap (λ one. placed_with k one old) (same-copy (core_if true))) told process records

-- the checkpoint that came as what changed was applied by one copy, and the other one was covered
pub settles-changed : (old mid new : Placed) (k : Which) (change : ChangeMessage) (taken : TakenMessage)
    (before after : Records) (step : StepOutcome)
    → taken ≡ taken_by_change change → is_some (core_changed_by k old change) ≡ true
    → mid ≡ placed_with k (copy_changing (copy_of k old.pair) change (core_changed_by k old change)) old
    → step_sendings step ≡ Some (sent_at (copy_of k mid.pair).processor (Taking taken ∷ []))
    → new ≡ covered_by k taken before mid → after ≡ kept_after k before mid
    → Settles (change_step old.site old.number old.pair before change k) old before step new after
settles-changed old mid new k change taken before after step is some put told process records =
    changed-if old k change mid new taken before after step (fit old k change) is some put told process records

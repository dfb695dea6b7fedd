-- A checkpoint that comes to a copy is the step that is defined.
use Rattle.std.proofs.Common.{◌≡◌, true, [], ◌∷◌, Option, Some, None, is_some, refl, ap, subst, sym}
use Rattle.std.specs.Option.{option_map}
use Rattle.world_semantics.specs.checkpoint_image.specs.declared.message.ImageMessage.{ImageMessage}
use Rattle.world_semantics.specs.checkpoint_image.specs.declared.message.TakenMessage.{TakenMessage}
use Rattle.world_semantics.specs.declared.which.Which.{Which}
use Rattle.world_semantics.specs.declared.which.Which.TheVariants.{First, Second}
use Rattle.world_semantics.specs.Core.{Core}
use Rattle.world_semantics.specs.World.{copy_of, other_of}
use Rattle.world_semantics.specs.Messages.{Taking, sent_at}
use Rattle.world_semantics.specs.Passes.{after_covering, taken_of}
use Rattle.node_copies.specs.computed_changes.specs.Checkpoints.{applied_step, checkpoint_step, records_covering}
use Rattle.node_copies.specs.Receiving.{copy_applying}
use Rattle.world_semantics.specs.Records.{Records}
use Rattle.node_copies.specs.Seen.{step_sendings}
use Rattle.node_copies.specs.declared.step.StepOutcome.{StepOutcome}
use Rattle.process_copies.specs.Receiving.{Settles, core_by, placed_with}
use Rattle.process_copies.specs.Seen.{Placed}
use Rattle.world_semantics.specs.Running.{Stepped}

-- the process after a copy of it put the core in
abbrev put : Which → ImageMessage → Core → Placed → Placed
put k message core old = placed_with k (copy_applying (copy_of k old.pair) message (Some core)) old

-- what it is after the other copy was covered too, and the records
abbrev pub covered_by : Which → TakenMessage → Records → Placed → Placed
covered_by k taken before mid =
    record mid { pair = after_covering mid.number (other_of k) taken before.kept mid.pair }

abbrev covered_after : Which → ImageMessage → Records → Placed → Placed
covered_after k message before mid = covered_by k (taken_of message) before mid

abbrev pub kept_after : Which → Records → Placed → Records
kept_after k before mid = records_covering mid.number (copy_of (other_of k) mid.pair) before

settles-put : (k : Which) (old : Placed) (message : ImageMessage) (before : Records) (core : Core) (step : StepOutcome)
    → step_sendings step ≡ Some (sent_at (copy_of k (put k message core old).pair).processor
    (Taking (taken_of message) ∷ []))
    → Settles (Some (applied_step old.number k old.pair before message core)) old before step
    (covered_after k message before (put k message core old))
    (kept_after k before (put k message core old))
settles-put First old message before core step told = (told, refl, refl)
settles-put Second old message before core step told = (told, refl, refl)

settles-mid : (old mid : Placed) (k : Which) (message : ImageMessage) (before : Records) (step : StepOutcome)
    (core : Option Core)
    → core_by k old message ≡ core → is_some core ≡ true
    → mid ≡ placed_with k (copy_applying (copy_of k old.pair) message core) old
    → step_sendings step ≡ Some (sent_at (copy_of k mid.pair).processor (Taking (taken_of message) ∷ []))
    → Settles (checkpoint_step old.site old.number k old.pair before message (copy_of k old.pair).role) old before step
    (covered_after k message before mid)
    (kept_after k before mid)
settles-mid old mid k message before step None core some put told = absurd (cc)
settles-mid old mid k message before step (Some one) core some put told =
    subst (λ (made : Option Stepped). Settles made old before step (covered_after k message before mid)
    (kept_after k before mid))
    (sym (ap (λ (o : Option Core). option_map (applied_step old.number k old.pair before message) o) core))
    (subst (λ (mid : Placed). step_sendings step
    ≡ Some (sent_at (copy_of k mid.pair).processor (Taking (taken_of message) ∷ []))
    → Settles (Some (applied_step old.number k old.pair before message one)) old before step
    (covered_after k message before mid) (kept_after k before mid))
    (sym put) (settles-put k old message before one step) told)

-- the checkpoint was applied by one copy, and the other one was covered
pub settles-applied : (old mid new : Placed) (k : Which) (message : ImageMessage) (before after : Records)
    (step : StepOutcome)
    → is_some (core_by k old message) ≡ true
    → mid ≡ placed_with k (copy_applying (copy_of k old.pair) message (core_by k old message)) old
    → step_sendings step ≡ Some (sent_at (copy_of k mid.pair).processor (Taking (taken_of message) ∷ []))
    → new ≡ covered_after k message before mid → after ≡ kept_after k before mid
    → Settles (checkpoint_step old.site old.number k old.pair before message (copy_of k old.pair).role) old before step
    new after
settles-applied old mid new k message before after step some put told process records =
    subst (λ (n : Placed).
    Settles (checkpoint_step old.site old.number k old.pair before message (copy_of k old.pair).role) old before step n
    after)
    (sym process)
    (subst (λ (a : Records).
    Settles (checkpoint_step old.site old.number k old.pair before message (copy_of k old.pair).role) old before step
    (covered_after k message before mid) a)
    (sym records)
    (settles-mid old mid k message before step (core_by k old message) refl some put told))

-- the same, where this is said to be taken
pub settles-taken : (old mid new : Placed) (k : Which) (message : ImageMessage) (taken : TakenMessage)
    (before after : Records) (step : StepOutcome) → taken ≡ taken_of message
    → is_some (core_by k old message) ≡ true
    → mid ≡ placed_with k (copy_applying (copy_of k old.pair) message (core_by k old message)) old
    → step_sendings step ≡ Some (sent_at (copy_of k mid.pair).processor (Taking taken ∷ []))
    → new ≡ covered_by k taken before mid → after ≡ kept_after k before mid
    → Settles (checkpoint_step old.site old.number k old.pair before message (copy_of k old.pair).role) old before step
    new after
settles-taken old mid new k message taken before after step is some put told process records =
    settles-applied old mid new k message before after step some put
    (subst (λ (t : TakenMessage). step_sendings step
    ≡ Some (sent_at (copy_of k mid.pair).processor (Taking t ∷ []))) is told)
    (subst (λ (t : TakenMessage). new ≡ covered_by k t before mid) is process) records

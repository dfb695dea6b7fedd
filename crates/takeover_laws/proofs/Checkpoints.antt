-- What the rules of checkpoints need of marks, messages and copies.
use Rattle.std.proofs.Common.{◌≡◌, ◌≢◌, ◌≤◌, ◌⊎◌, inl, inr, ℕ, ◌+◌, ◌||◌, Bool, true, false, List, ◌∷◌}
use Rattle.std.proofs.Common.{refl, ap, arith}
use Rattle.gd_words.specs.Members.{IsAmong}
use Rattle.tal_tree.specs.declared.act.Act.{Act}
use Rattle.tal_tree.specs.declared.site.Site.{Site}
use Rattle.tal_tree.specs.declared.site.ProcessSpec.{ProcessSpec}
use Rattle.process_semantics.specs.declared.point.Point.{Point}
use Rattle.process_semantics.specs.declared.point.Point.TheVariants as point
use Rattle.process_semantics.specs.Process as process
use Rattle.world_semantics.specs.checkpoint_image.specs.declared.message.ImageMessage.{ImageMessage}
use Rattle.world_semantics.specs.checkpoint_image.specs.declared.message.TakenMessage.{TakenMessage}
use Rattle.world_semantics.specs.declared.role.Role.TheVariants.{Acting}
use Rattle.world_semantics.specs.Core.{Core, Deed, Went, Checkpointed, Took, Asked, Got, Answered, Acted, after_passing}
use Rattle.world_semantics.specs.Core.{imaged_core}
use Rattle.world_semantics.specs.declared.which.Which.TheVariants.{First, Second}
use Rattle.world_semantics.specs.World.{Pair, Down}
use Rattle.world_semantics.specs.Messages.{Sending, Cause}
use Rattle.world_semantics.specs.Passes.{Passes, by_send, by_pass_again, by_pass, by_apply, by_acknowledge}
use Rattle.world_semantics.specs.Passes.{by_apply_behind, by_end}
use Rattle.world_semantics.proofs.Roles.{RolesOf}
pub use Rattle.world_semantics.proofs.Steady.{marked-down}
use Rattle.plain_histories.specs.process_histories.proofs.Deeds.{point_of}
use Rattle.takeover_laws.specs.Invariant.{IsRepeatable, Stage, IsOther, is_lost, is_due, is_even, has_applied}
use Rattle.takeover_laws.specs.Invariant.{exchanged, has_renewed, is_blank}

pub either : (a b : Bool) → (a || b) ≡ true → (a ≡ true) ⊎ (b ≡ true)
either true b e = inl refl
either false b e = inr e

pub other-rests : {site : Site} {number : ℕ} {spec : ProcessSpec} {deeds : List Deed} {pair : Pair} {stage : Stage}
    → IsOther site number spec deeds pair stage
    → pair.second.role ≡ Acting → ⊥
other-rests (is_lost gone) acting = absurd (cc)
other-rests (is_blank b) acting = let role = b.role in absurd (cc)
other-rests (is_due w sent told next at body) acting = let role = w.role in absurd (cc)
other-rests (is_even stage w next unsent told renewal) acting = let role = w.role in absurd (cc)
other-rests (has_applied w next sent told) acting = let role = w.role in absurd (cc)
other-rests (has_renewed stage away w next sent told) acting = let role = w.role in absurd (cc)

pub no-checkpoint-again : (deed : Deed) → IsRepeatable deed → point_of deed ≡ point.AtCheckpoint → ⊥
no-checkpoint-again Checkpointed again at = again
no-checkpoint-again Went again at = cc
no-checkpoint-again (Took place words) again at = cc
no-checkpoint-again (Asked file words) again at = cc
no-checkpoint-again (Got file words) again at = cc
no-checkpoint-again (Answered place words) again at = cc
no-checkpoint-again (Acted call found) again at = cc

-- Numbers of messages

pub sent-most : {new : ImageMessage} (messages : List ImageMessage) {k e : ℕ} → new.number ≡ k + 1
    → ((m : ImageMessage) → IsAmong m messages → m.era ≡ e → m.number ≤ k)
    → (m : ImageMessage) → IsAmong m (new ∷ messages) → m.era ≡ e → m.number ≤ k + 1
sent-most messages next all m (inl same) era = rw same (omega (arith, next))
sent-most messages next all m (inr among) era = let most = all m among era in omega (arith, most)

pub sent-image : {new : ImageMessage} (messages : List ImageMessage) {k e : ℕ} → new.number ≡ k + 1
    → ((m : ImageMessage) → IsAmong m messages → m.era ≡ e → m.number ≤ k)
    → (m : ImageMessage) → IsAmong m (new ∷ messages) → m.era ≡ e → m.number ≡ k + 1 → m.image ≡ new.image
sent-image messages next all m (inl same) era is = ap (λ (x : ImageMessage). x.image) same
sent-image messages next all m (inr among) era is = let most = all m among era in absurd (omega (arith, most, is))

pub taken-most : {new : TakenMessage} (takens : List TakenMessage) {k n e : ℕ} → new.number ≡ n → k ≤ n
    → ((t : TakenMessage) → IsAmong t takens → t.era ≡ e → t.number ≤ k)
    → (t : TakenMessage) → IsAmong t (new ∷ takens) → t.era ≡ e → t.number ≤ n
taken-most takens is less all t (inl same) era = rw same (omega (arith, is))
taken-most takens is less all t (inr among) era = let most = all t among era in omega (arith, most, less)

pub sent-dated : {new : ImageMessage} (messages : List ImageMessage) {e : ℕ} → new.era ≤ e
    → ((m : ImageMessage) → IsAmong m messages → m.era ≤ e)
    → (m : ImageMessage) → IsAmong m (new ∷ messages) → m.era ≤ e
sent-dated messages now all m (inl same) = rw same now
sent-dated messages now all m (inr among) = all m among

pub taken-dated : {new : TakenMessage} (takens : List TakenMessage) {e : ℕ} → new.era ≤ e
    → ((t : TakenMessage) → IsAmong t takens → t.era ≤ e)
    → (t : TakenMessage) → IsAmong t (new ∷ takens) → t.era ≤ e
taken-dated takens now all t (inl same) = rw same now
taken-dated takens now all t (inr among) = all t among

-- the rules are the same for both copies
pub passes-exchanged : {number : ℕ} {marked : List Down} {kept after : List Act} {pair next : Pair} {cause : Cause}
    {sendings : List Sending}
    → Passes number marked kept pair cause sendings next after
    → Passes number marked kept (exchanged pair) cause sendings (exchanged next) after
passes-exchanged (by_send First role at sent unmarked) = by_send Second role at sent unmarked
passes-exchanged (by_send Second role at sent unmarked) = by_send First role at sent unmarked
passes-exchanged (by_pass_again First role at may less) = by_pass_again Second role at may less
passes-exchanged (by_pass_again Second role at may less) = by_pass_again First role at may less
passes-exchanged (by_pass First role at may most) = by_pass Second role at may most
passes-exchanged (by_pass Second role at may most) = by_pass First role at may most
passes-exchanged (by_apply First message applied role sent era is put at) =
    by_apply Second message applied role sent era is put at
passes-exchanged (by_apply Second message applied role sent era is put at) =
    by_apply First message applied role sent era is put at
passes-exchanged (by_apply_behind First message applied role sent era is put at) =
    by_apply_behind Second message applied role sent era is put at
passes-exchanged (by_apply_behind Second message applied role sent era is put at) =
    by_apply_behind First message applied role sent era is put at
passes-exchanged (by_end First role sent away may) = by_end Second role sent away may
passes-exchanged (by_end Second role sent away may) = by_end First role sent away may
passes-exchanged (by_acknowledge First taken role sent among era is) =
    by_acknowledge Second taken role sent among era is
passes-exchanged (by_acknowledge Second taken role sent among era is) =
    by_acknowledge First taken role sent among era is

pub roles-exchanged : {stopped : List Bool} (pair : Pair) → RolesOf stopped pair → RolesOf stopped (exchanged pair)
roles-exchanged pair r = record {
  first_gone = r.second_gone;
  first_lost = r.second_lost;
  second_gone = r.first_gone;
  second_lost = r.first_lost;
  single = λ a b. r.single b a;
}

-- What a checkpoint is of

-- elsewhere than at a checkpoint it is of the core as it stands
pub away-imaged : (core : Core) (p : Point) → process.point core.state ≡ p → p ≢ point.AtCheckpoint
    → imaged_core core ≡ core
away-imaged core point.AtCheckpoint is away = absurd (away refl)
away-imaged core point.Inner is away = rw is refl
away-imaged core point.Take is away = rw is refl
away-imaged core point.Ask is away = rw is refl
away-imaged core point.Await is away = rw is refl
away-imaged core point.Answer is away = rw is refl
away-imaged core point.Device is away = rw is refl
away-imaged core point.Ended is away = rw is refl

-- and at one of that after it
pub checkpoint-imaged : (core : Core) → process.point core.state ≡ point.AtCheckpoint → imaged_core core ≡
    after_passing core
checkpoint-imaged core is = rw is refl

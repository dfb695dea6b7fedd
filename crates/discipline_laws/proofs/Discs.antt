-- Discs keep the discipline.
use Rattle.std.proofs.Common.{◌≡◌, ◌≢◌, ℕ, ℤ, Bool, false, List, [], ◌∷◌, ◌++◌, length, Some, refl, ap, sym, subst}
use Rattle.std.proofs.Common.{◌∙◌, arith}
use Rattle.tal_tree.specs.declared.site.Kind.TheVariants as kind
use Rattle.tal_tree.specs.declared.site.ProcessSpec.{ProcessSpec}
use Rattle.tal_tree.specs.declared.site.Site.{Site}
use Rattle.gd_words.specs.declared.device.DeviceCall.{DeviceCall}
use Rattle.process_semantics.specs.declared.disc.DiscState.{DiscState}
use Rattle.process_semantics.specs.declared.point.Point.TheVariants as point
use Rattle.process_semantics.specs.Image.{listed_items}
use Rattle.process_semantics.specs.Process as process
use Rattle.process_semantics.specs.Process.{ProcessState, Runs, Serves}
use Rattle.checkpoint_laws.specs.process_images.specs.Images.{Agrees}
use Rattle.checkpoint_laws.specs.plain_semantics.specs.Openers.{openers_of}
use Rattle.checkpoint_laws.specs.whole_states.specs.Processes.{IsRegularKind}
use Rattle.checkpoint_laws.specs.world_semantics.specs.Core.{Core, Deed, Went, Checkpointed, Took, Asked, Got, Answered}
use Rattle.checkpoint_laws.specs.world_semantics.specs.Core.{Acted, Advances}
use Rattle.checkpoint_laws.specs.world_semantics.specs.Core.{goes, checkpoints, takes, asks, gets, answers, acts}
use Rattle.checkpoint_laws.specs.world_semantics.specs.Core.{after_passing, carried_image, put_in}
use Rattle.process_histories.specs.Bounds.{AreBounded}
use Rattle.process_histories.specs.Histories.{HasDone, one_more, kind_of, kind_without_mirror}
use Rattle.process_histories.specs.Words.{requests_on}
use Rattle.process_histories.proofs.Deeds.{point_of, stands-there}
use Rattle.process_histories.proofs.OneKind.{done-kind}
use Rattle.process_histories.proofs.Steady.{IsSteady, done-steady}
use Rattle.discipline_laws.specs.Disciplined.{IsCheckpoint, AreUncheckpointed, AreInner, IsCall, AreIdle, IsDisciplined}
use Rattle.discipline_laws.proofs.Resuming.{resume-from}

checkpoint-only : (deed : Deed) → point_of deed ≡ point.AtCheckpoint → deed ≡ Checkpointed
checkpoint-only Went e = absurd (cc)
checkpoint-only Checkpointed e = refl
checkpoint-only (Took place words) e = absurd (cc)
checkpoint-only (Asked file words) e = absurd (cc)
checkpoint-only (Got file words) e = absurd (cc)
checkpoint-only (Answered place words) e = absurd (cc)
checkpoint-only (Acted call found) e = absurd (cc)

module _ (site : Site) (number sectors : ℕ) (mirrored : Bool) (spec : ProcessSpec)
    (is : spec.what ≡ kind.Disc sectors mirrored) where
  regular : IsRegularKind spec.what
  regular = rw is tt

  serves : {deeds : List Deed} {core : Core} → HasDone site number spec deeds core
      → (s : DiscState) × (core.state ≡ Serves sectors s)
  serves {core = core} done = by core.state (done-kind done ∙ ap kind_without_mirror is)
    where
      by : (state : ProcessState) → kind_of state ≡ kind.Disc sectors false
          → (s : DiscState) × (state ≡ Serves sectors s)
      by (Runs program s) same = absurd (cc)
      by (Serves n s) same = let e : n ≡ sectors = cc in (s, rw e refl)

  -- a disc asks nothing
  none-asked : (since before : List Deed) {core : Core} → HasDone site number spec (since ++ before) core → (file : ℕ)
      → length (requests_on file since) ≡ 0
  none-asked [] before done file = refl
  none-asked (Went ∷ since) before (one_more done moves) file = none-asked since before done file
  none-asked (Checkpointed ∷ since) before (one_more done moves) file = none-asked since before done file
  none-asked (Took place words ∷ since) before (one_more done moves) file = none-asked since before done file
  none-asked (Asked one words ∷ since) before (one_more {before = core} done (asks at named said)) file =
      let s = serves done in
      let steady : IsSteady (Serves sectors s.0) = subst IsSteady s.1 (done-steady regular done) in
      absurd (steady.1 (ap process.point (sym s.1) ∙ at))
  none-asked (Got one words ∷ since) before (one_more done moves) file = none-asked since before done file
  none-asked (Answered place words ∷ since) before (one_more done moves) file = none-asked since before done file
  none-asked (Acted call found ∷ since) before (one_more done moves) file = none-asked since before done file

  disc-resume : (since before : List Deed) (core stale : Core) → HasDone site number spec (since ++ before) core
      → AreUncheckpointed since → AreBounded (since ++ before)
      → process.point core.state ≡ point.AtCheckpoint → HasDone site number spec before stale
      → put_in stale (carried_image core) ≡ Some (after_passing core)
  disc-resume since before core stale done uncheckpointed bounded at old =
      let s = serves done in
      let t = serves old in
      let agrees : Agrees (listed_items core.state) stale.state core.state = rw (s.1, t.1) refl in
      resume-from since before regular done bounded at old agrees (λ file apart. none-asked since before done file)

  -- after a take a disc stands at its checkpoint
  after-take : (since before : List Deed) (place : ℕ) (words : List ℤ) {core : Core}
      → HasDone site number spec (since ++ Took place words ∷ before) core → AreUncheckpointed since
      → (since ≡ []) × (process.point core.state ≡ point.AtCheckpoint)
  after-take [] before place words (one_more {before = core} done (takes block at there)) uncheckpointed =
      let s = serves done in (refl, rw s.1 refl)
  after-take (deed ∷ since) before place words (one_more done moves) uncheckpointed =
      let here = after-take since before place words done uncheckpointed.1 in
      let checkpoint : deed ≡ Checkpointed = checkpoint-only deed (sym (stands-there moves) ∙ here.1) in
      absurd (uncheckpointed.0 (subst IsCheckpoint (sym checkpoint) tt))

  -- after a call a disc isn't at its device until its next checkpoint
  after-call : (since before : List Deed) (call : DeviceCall) (found : List ℤ) {core : Core}
      → HasDone site number spec (since ++ Acted call found ∷ before) core → AreUncheckpointed since
      → AreIdle since × (process.point core.state ≢ point.Device)
  after-call [] before call found (one_more {before = core} done (acts at named)) uncheckpointed =
      let s = serves done in (tt, rw s.1 (λ e. cc))
  after-call (deed ∷ since) before call found (one_more {before = core} done moves) uncheckpointed =
      let old = after-call since before call found done uncheckpointed.1 in
      let s = serves done in
      ((no-call deed moves old.1, old.0), later s.0 s.1 moves old.1 uncheckpointed.0)
    where
      no-call : (deed : Deed) {next : Core} → Advances (openers_of site number) core deed next
          → process.point core.state ≢ point.Device → IsCall deed → ⊥
      no-call (Acted call found) moves away is = away (stands-there moves)
      no-call Went moves away is = is
      no-call Checkpointed moves away is = is
      no-call (Took place words) moves away is = is
      no-call (Asked file words) moves away is = is
      no-call (Got file words) moves away is = is
      no-call (Answered place words) moves away is = is

      later : (s : DiscState) → core.state ≡ Serves sectors s → {deed : Deed} {next : Core}
          → Advances (openers_of site number) core deed next
          → process.point core.state ≢ point.Device → (IsCheckpoint deed → ⊥) → process.point next.state ≢ point.Device
      later s same (goes at) away checkpoint = rw same (λ e. away (ap process.point same ∙ e))
      later s same (checkpoints at) away checkpoint = absurd (checkpoint tt)
      later s same (takes block at there) away checkpoint = rw same (λ e. cc)
      later s same (asks at named said) away checkpoint = rw same (λ e. away (ap process.point same ∙ e))
      later s same (gets at named) away checkpoint = rw same (λ e. away (ap process.point same ∙ e))
      later s same (answers opener block at hand known there said) away checkpoint = rw same (λ e. cc)
      later s same (acts at named) away checkpoint = absurd (away at)

  pub disc-disciplined : IsDisciplined site number spec
  disc-disciplined = record {
    resume = disc-resume;
    quiet = λ since before place words core done uncheckpointed.
        subst AreInner (sym (after-take since before place words done uncheckpointed).0) tt;
    once = λ since before call found core done uncheckpointed.
        (after-call since before call found done uncheckpointed).0;
    depth = λ since before file use_of core done uncheckpointed there. let none =
        none-asked since before done file in omega (arith, none);
  }

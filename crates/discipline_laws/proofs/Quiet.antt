-- What an accepted program does between two checkpoints: after a take nothing but inner steps, and on each file no more
-- requests than replies are kept for it.
use Rattle.std.proofs.Common.{◌≡◌, ◌≢◌, inl, inr, ◌≤◌, ◌<◌, ℕ, ◌==◌, ℤ, List, [], ◌∷◌, ◌++◌, length, Some, is_some}
use Rattle.std.proofs.Common.{slice_get, refl, ap, sym, ◌∙◌, arith}
use Rattle.std.proofs.lemmas.Bool.Decides.{eqb_tells}
use Rattle.gd_words.specs.declared.device.DeviceCall.{DeviceCall}
use Rattle.tal_tree.specs.Regular.{IsRegular}
use Rattle.tal_tree.specs.declared.program.FileUse.{FileUse}
use Rattle.tal_tree.specs.declared.program.Program.{Program}
use Rattle.tal_tree.specs.declared.site.Kind.TheVariants as kind
use Rattle.tal_tree.specs.declared.site.ProcessSpec.{ProcessSpec}
use Rattle.tal_tree.specs.declared.site.Site.{Site}
use Rattle.tal_tree.specs.declared.statement.What.{out-What}
use Rattle.process_semantics.specs.declared.point.Point.{Point}
use Rattle.process_semantics.specs.declared.point.Point.TheVariants as point
use Rattle.process_semantics.specs.Calls.{file_in}
use Rattle.process_semantics.specs.Process as process
use Rattle.process_semantics.specs.Process.{Runs}
use Rattle.process_semantics.proofs.Points.{in-next}
use Rattle.checkpoint_laws.specs.world_semantics.specs.Core.{Core, Deed, Went, Checkpointed, Took, Asked, Got, Answered}
use Rattle.checkpoint_laws.specs.world_semantics.specs.Core.{Acted, goes, takes}
use Rattle.checkpoint_laws.specs.world_semantics.specs.Core.{asks, gets, answers, acts}
use Rattle.path_steps.specs.path_semantics.specs.Accepted.{IsAccepted}
use Rattle.path_steps.specs.path_semantics.specs.declared.reason.Reason.TheVariants.{Input, Depth}
use Rattle.path_steps.proofs.Growing.{not-both}
use Rattle.process_histories.specs.Histories.{HasDone, one_more}
use Rattle.process_histories.specs.Words.{ask_on, requests_on, one_if}
use Rattle.process_histories.proofs.Counts.{count-more, take-free}
use Rattle.process_histories.proofs.Deeds.{done-before}
use Rattle.discipline_laws.specs.Disciplined.{AreUncheckpointed, AreInner, AreIdle}
use Rattle.discipline_laws.proofs.Covering.{none-more}
use Rattle.discipline_laws.proofs.Standing.{breaks-read, depth-room, no-device, safe}

-- where nothing but inner steps came after a take, its request is in hand
still-held : {site : Site} {number : ℕ} {spec : ProcessSpec} (since before : List Deed) (place : ℕ) (words : List ℤ)
    {core : Core}
    → HasDone site number spec (since ++ Took place words ∷ before) core → AreInner since
    → core.receive.in_hand ≡ Some place
still-held [] before place words (one_more done (takes block at there)) inner = refl
still-held (Went ∷ since) before place words (one_more done (goes at)) inner =
    still-held since before place words done inner
still-held (Checkpointed ∷ since) before place words done inner = absurd inner
still-held (Took one given ∷ since) before place words done inner = absurd inner
still-held (Asked file given ∷ since) before place words done inner = absurd inner
still-held (Got file given ∷ since) before place words done inner = absurd inner
still-held (Answered one given ∷ since) before place words done inner = absurd inner
still-held (Acted call found ∷ since) before place words done inner = absurd inner

module _ (site : Site) (number : ℕ) (spec : ProcessSpec) (program : Program) (is : spec.what ≡ kind.Pair program)
    (regular : IsRegular program) where
  -- after a request was taken nothing is asked, got or answered before the next checkpoint
  none-after-take : IsAccepted program → (since before : List Deed) (place : ℕ) (words : List ℤ) {core : Core}
      (p : Point)
      → HasDone site number spec (since ++ Took place words ∷ before) core → AreUncheckpointed since
      → process.point core.state ≡ p
      → p ≢ point.Inner → p ≢ point.Ended → p ≢ point.Take → p ≢ point.AtCheckpoint → ⊥
  none-after-take accepted since before place words p done uncheckpointed at inner ended take checkpoint =
      let here = safe site number spec program is regular accepted p done inner ended at in
      not-both here.covered.dues.read (here.covered.read since before place words refl uncheckpointed)
      (sym (breaks-read here.stands.call inner take checkpoint here.covered.dues) ∙ here.unbroken Input)

  pub quiet : IsAccepted program → (since before : List Deed) (place : ℕ) (words : List ℤ) {core : Core}
      → HasDone site number spec (since ++ Took place words ∷ before) core
      → AreUncheckpointed since → AreInner since
  quiet accepted [] before place words done uncheckpointed = tt
  quiet accepted (Went ∷ since) before place words (one_more done (goes at)) uncheckpointed =
      quiet accepted since before place words done uncheckpointed.1
  quiet accepted (Checkpointed ∷ since) before place words done uncheckpointed = absurd (uncheckpointed.0 tt)
  quiet accepted (Took one given ∷ since) before place words (one_more {before = core} done (takes block at there))
      uncheckpointed =
      let held : core.receive.in_hand ≡ Some place =
      still-held since before place words done (quiet accepted since before place words done uncheckpointed.1) in
      absurd (not-both (is_some core.receive.in_hand) (ap is_some held) (ap is_some (take-free done at)))
  quiet accepted (Asked file given ∷ since) before place words (one_more done (asks at named said)) uncheckpointed =
      absurd (none-after-take accepted since before place words point.Ask done uncheckpointed.1 at (λ e. cc) (λ e. cc)
      (λ e. cc) (λ e. cc))
  quiet accepted (Got file given ∷ since) before place words (one_more done (gets at named)) uncheckpointed =
      absurd (none-after-take accepted since before place words point.Await done uncheckpointed.1 at (λ e. cc) (λ e. cc)
      (λ e. cc) (λ e. cc))
  quiet accepted (Answered one given ∷ since) before place words
      (one_more done (answers opener block at hand known there said)) uncheckpointed =
      absurd (none-after-take accepted since before place words point.Answer done uncheckpointed.1 at (λ e. cc)
      (λ e. cc)
      (λ e. cc) (λ e. cc))
  quiet accepted (Acted call found ∷ since) before place words (one_more done (acts at named)) uncheckpointed =
      absurd (no-device site number spec program is done at)

  -- a program calls no device
  pub once : (since before : List Deed) (call : DeviceCall) (found : List ℤ) {core : Core}
      → HasDone site number spec (since ++ Acted call found ∷ before) core
      → AreUncheckpointed since → AreIdle since
  once since before call found done uncheckpointed = by (done-before since (Acted call found ∷ before) done)
    where
      by : (core : Core) × HasDone site number spec (Acted call found ∷ before) core → AreIdle since
      by (core, one_more old (acts at named)) = absurd (no-device site number spec program is old at)

  ask-room : IsAccepted program → (since before : List Deed) (file : ℕ) (use_of : FileUse) {core : Core}
      → HasDone site number spec (since ++ before) core → AreUncheckpointed since
      → process.point core.state ≡ point.Ask → file ≡ process.asked_file core.state
      → slice_get program.files file ≡ Some use_of → length (requests_on file since) < use_of.depth
  ask-room accepted since before file use_of done uncheckpointed at named there =
      let here = safe site number spec program is regular accepted point.Ask done (λ e. cc) (λ e. cc) at in
      let few = here.covered.asked since before file refl uncheckpointed in
      let asked : file ≡ file_in (out-What here.stands.statement.what) =
      named ∙ ap process.asked_file here.same
      ∙ in-next 0 file_in here.s.frames here.stands.statement here.stands.next in
      let room = depth-room here.stands.call here.covered.dues file use_of asked there (here.unbroken (Depth file)) in
      let none = none-more program here.covered.dues here.s file
      (λ e. let f : point.Ask ≡ point.Await = sym at ∙ ap process.point here.same ∙ e in cc) in
      omega (arith, few, room, none)

  pub depth : IsAccepted program → (since before : List Deed) (file : ℕ) (use_of : FileUse) {core : Core}
      → HasDone site number spec (since ++ before) core → AreUncheckpointed since
      → slice_get program.files file ≡ Some use_of → length (requests_on file since) ≤ use_of.depth
  depth accepted [] before file use_of done uncheckpointed there = omega arith
  depth accepted (Went ∷ since) before file use_of (one_more done moves) uncheckpointed there =
      depth accepted since before file use_of done uncheckpointed.1 there
  depth accepted (Checkpointed ∷ since) before file use_of (one_more done moves) uncheckpointed there =
      depth accepted since before file use_of done uncheckpointed.1 there
  depth accepted (Took one given ∷ since) before file use_of (one_more done moves) uncheckpointed there =
      depth accepted since before file use_of done uncheckpointed.1 there
  depth accepted (Asked at given ∷ since) before file use_of (one_more done (asks stands named said)) uncheckpointed
      there =
      let more = count-more (ask_on file) (Asked at given) since (at == file) given refl in
      elim (eqb_tells at file) [
        | inl t ↦
            (let room = ask-room accepted since before at use_of done uncheckpointed.1 stands named
            (ap (slice_get program.files) t.1 ∙ there) in
            let same : length (requests_on at since) ≡ length (requests_on file since) =
            ap (λ (n : ℕ). length (requests_on n since)) t.1 in
            let one : one_if (at == file) ≡ 1 = ap one_if t.0 in omega (arith, room, same, one, more))
        | inr t ↦
            (let one : one_if (at == file) ≡ 0 = ap one_if t.0 in
            let few = depth accepted since before file use_of done uncheckpointed.1 there in omega
            (arith, one, few, more))
      ]
  depth accepted (Got one given ∷ since) before file use_of (one_more done moves) uncheckpointed there =
      depth accepted since before file use_of done uncheckpointed.1 there
  depth accepted (Answered one given ∷ since) before file use_of (one_more done moves) uncheckpointed there =
      depth accepted since before file use_of done uncheckpointed.1 there
  depth accepted (Acted call found ∷ since) before file use_of (one_more done moves) uncheckpointed there =
      depth accepted since before file use_of done uncheckpointed.1 there

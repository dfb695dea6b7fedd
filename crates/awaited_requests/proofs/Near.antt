-- A request that is awaited is one of the last that its opener made, as many as replies are kept for it.
use Rattle.std.proofs.Common.{◌≡◌, ◌≢◌, ℕ, ◌+◌, ◌≤◌, ◌<◌, List, [], ◌∷◌, ◌++◌, length, Some, slice_get, refl, ap, sym}
use Rattle.std.proofs.Common.{◌∙◌, subst, arith, append_assoc, eq-eqb}
use Rattle.tal_tree.specs.declared.act.Act.{Act}
use Rattle.tal_tree.specs.declared.site.OpenerSpec.{OpenerSpec}
use Rattle.tal_tree.specs.declared.site.ProcessSpec.{ProcessSpec}
use Rattle.tal_tree.specs.declared.site.Site.{Site}
use Rattle.tal_tree.specs.declared.site.Who.{Who}
use Rattle.tal_tree.specs.declared.site.Who.TheVariants as who
use Rattle.takeover_laws.specs.process_semantics.specs.declared.point.Point.TheVariants as point
use Rattle.takeover_laws.specs.process_semantics.specs.Process as process
use Rattle.world_semantics.specs.plain_semantics.specs.declared.slot.Opener.{Opener}
use Rattle.world_semantics.specs.plain_semantics.specs.Openers.{files_of, openers_of, opener_of}
use Rattle.world_semantics.specs.Core.{Core, Deed, Went, Checkpointed, Took, Asked, Got, Answered, Acted, goes}
use Rattle.world_semantics.specs.Core.{checkpoints}
use Rattle.world_semantics.specs.Core.{takes, asks, gets, answers, acts, next_on}
use Rattle.world_semantics.specs.World.{Copy, World, copy_of}
use Rattle.world_semantics.proofs.Lists.{some-same}
use Rattle.takeover_laws.specs.process_histories.specs.Histories.{HasDone, nothing_done, one_more}
use Rattle.takeover_laws.specs.process_histories.specs.Words.{ask_on, get_on, requests_on, replies_on, awaits_on}
use Rattle.takeover_laws.specs.process_histories.specs.Words.{one_if}
use Rattle.takeover_laws.specs.process_histories.proofs.Counts.{asked-count, none-awaited, one-awaited}
use Rattle.takeover_laws.specs.process_histories.proofs.Deeds.{done-last, stands-there}
use Rattle.takeover_laws.specs.process_histories.proofs.Steady.{calm-away, checkpointed-calm, done-steady}
use Rattle.takeover_laws.specs.discipline_laws.specs.Disciplined.{AreUncheckpointed}
use Rattle.takeover_laws.specs.plain_histories.specs.Agreeing.{StandsFor}
use Rattle.takeover_laws.specs.plain_histories.specs.Booking.{AreBooked, AreHeld, none_held, take_held, step_held}
use Rattle.takeover_laws.specs.plain_histories.specs.Ledgers.{requests_of, Ledger}
use Rattle.takeover_laws.specs.plain_histories.proofs.Possible.{booked-ran}
use Rattle.takeover_laws.specs.Fit.{IsFit}
use Rattle.takeover_laws.specs.Invariant.{Invariant, Stage, IsLead, is_level, is_applied, is_behind}
use Rattle.takeover_laws.proofs.Backed.{next-is}
use Rattle.takeover_laws.proofs.Own.{quiet-held}
use Rattle.takeover_laws.proofs.Repeating.{uncheckpointed-join, repeatable-uncheckpointed, repeatable-join}
use Rattle.takeover_laws.proofs.Repeating.{no-checkpoint}
use Rattle.awaited_requests.specs.Awaited.{IsAwaited, by_copy, by_terminal}
use Rattle.awaited_requests.proofs.Depths.{depth-of}
use Rattle.awaited_requests.proofs.Leads.{acting-leads, count-join}

-- a request is one of the last that its opener made, as many as replies are kept for it
pub record IsNear (site : Site) (ledger : Ledger) (one : Who) (opener : Opener) (n : ℕ) : Type 0 where
  pub some : 1 ≤ n
  pub asked : n ≤ length (requests_of ledger one)
  pub last : (spec : OpenerSpec) → slice_get (openers_of site opener.server) opener.place ≡ Some spec
      → length (requests_of ledger one) < n + spec.depth

module _ (site : Site) (fit : IsFit site) (number : ℕ) (spec : ProcessSpec)
    (there : slice_get site.processes number ≡ Some spec) where
  -- deeds since the last checkpoint, at which no reply on a file was awaited
  record SinceCheckpoint (file : ℕ) (deeds : List Deed) : Type 0 where
    since : List Deed
    before : List Deed
    split : deeds ≡ since ++ before
    uncheckpointed : AreUncheckpointed since
    even : length (requests_on file before) ≡ length (replies_on file before)

  one-later : (file : ℕ) (deed : Deed) {deeds : List Deed} → deed ≢ Checkpointed → SinceCheckpoint file deeds
      → SinceCheckpoint file (deed ∷ deeds)
  one-later file deed other s = record {
    since = deed ∷ s.since;
    before = s.before;
    split = ap (λ all. deed ∷ all) s.split;
    uncheckpointed = (no-checkpoint deed other, s.uncheckpointed);
    even = s.even;
  }

  since-checkpoint : (file : ℕ) {deeds : List Deed} {core : Core} → HasDone site number spec deeds core →
      SinceCheckpoint file deeds
  since-checkpoint file nothing_done = record {
    since = [];
    before = [];
    split = refl;
    uncheckpointed = tt;
    even = refl;
  }
  since-checkpoint file (one_more {deeds = deeds} {before = core} done (checkpoints at)) =
      let none = none-awaited (process.after_checkpoint core.state) file
      (calm-away _ (checkpointed-calm core.state (done-steady (fit.regular number spec there) done) at)) in
      let count = asked-count (fit.regular number spec there) (one_more done (checkpoints at)) file in
      record {
        since = [];
        before = Checkpointed ∷ deeds;
        split = refl;
        uncheckpointed = tt;
        even = omega (arith, count, none);
      }
  since-checkpoint file (one_more done (goes at)) = one-later file Went (λ e. absurd (cc)) (since-checkpoint file done)
  since-checkpoint file (one_more done (takes {place = place} {words = words} block at known)) =
      one-later file (Took place words) (λ e. absurd (cc)) (since-checkpoint file done)
  since-checkpoint file (one_more done (asks {file = on} {words = words} at named said)) =
      one-later file (Asked on words) (λ e. absurd (cc)) (since-checkpoint file done)
  since-checkpoint file (one_more done (gets {file = on} {words = words} at named)) =
      one-later file (Got on words) (λ e. absurd (cc)) (since-checkpoint file done)
  since-checkpoint file (one_more done (answers {place = place} {words = words} opener block at hand known stood
      said)) =
      one-later file (Answered place words) (λ e. absurd (cc)) (since-checkpoint file done)
  since-checkpoint file (one_more done (acts {call = call} {found = found} at is)) =
      one-later file (Acted call found) (λ e. absurd (cc)) (since-checkpoint file done)

  -- a process awaits a reply, or did before deeds without a checkpoint: the depth covers all that it asked since the
  -- checkpoint before
  near-file : (file n : ℕ) (opener : Opener) (deeds more past : List Deed) {core after : Core}
      → opener_of site (who.File number file) ≡ Some opener
      → deeds ≡ more ++ past → AreUncheckpointed more → HasDone site number spec deeds after
      → HasDone site number spec past core → process.point core.state ≡ point.Await
      → process.asked_file core.state ≡ file → next_on core file ≡ n + 1
      → (1 ≤ n) × (n ≤ length (requests_on file deeds))
      × ((of : OpenerSpec) → slice_get (openers_of site opener.server) opener.place ≡ Some of
      → length (requests_on file deeds) < n + of.depth)
  near-file file n opener deeds more past {core = core} {after = after} opens split uncheckpointed whole done at named
      next =
      let last = since-checkpoint file done in
      let all : deeds ≡ (more ++ last.since) ++ last.before =
      split ∙ ap (λ rest. more ++ rest) last.split ∙ sym (append_assoc more last.since last.before) in
      let one : one_if (awaits_on core.state file) ≡ 1 =
      rw (one-awaited core.state file at, eq-eqb (process.asked_file core.state) file named) refl in
      let count : length (requests_on file past) ≡ length (replies_on file past) + one_if (awaits_on core.state file) =
      asked-count (fit.regular number spec there) done file in
      let numbered : next_on core file ≡ length (requests_on file past) + 1 =
      next-is site (fit.regular) number spec there past file opener opens done in
      let got : length (replies_on file past)
      ≡ length (replies_on file last.since) + length (replies_on file last.before) =
      ap (λ d. length (replies_on file d)) last.split ∙ count-join (get_on file) last.since last.before in
      let asked : length (requests_on file deeds) ≡ length (requests_on file more) + length (requests_on file past) =
      ap (λ d. length (requests_on file d)) split ∙ count-join (ask_on file) more past in
      let since : length (requests_on file deeds)
      ≡ length (requests_on file (more ++ last.since)) + length (requests_on file last.before) =
      ap (λ d. length (requests_on file d)) all ∙ count-join (ask_on file) (more ++ last.since) last.before in (
        omega (arith, next, numbered, count, one),
        omega (arith, next, numbered, asked),
        λ of placed.
            (let has = depth-of site (who.File number file) opener of opens placed in
            let same : has.0 ≡ spec = some-same (sym has.2 ∙ there) in
            let opened : slice_get (files_of spec.what) file ≡ Some has.1 =
            subst (λ (s : ProcessSpec). slice_get (files_of s.what) file ≡ Some has.1) same has.3 in
            let few = (fit.disciplined number spec there).depth (more ++ last.since) last.before file has.1 after
            (subst (λ d. HasDone site number spec d after) all whole)
            (uncheckpointed-join more last.since uncheckpointed last.uncheckpointed) opened in
            omega (arith, has.4, few, one, next, numbered, count, got, since, last.even)),
      )

module _ (site : Site) (fit : IsFit site) where
  -- a lead that awaits a reply holds no acts and is at no checkpoint
  near-lead : {acts_kept : List _} {shown : List _} (ledger : Ledger) (booked : AreBooked site acts_kept shown ledger)
      (number : ℕ) (spec : ProcessSpec)
      (there : slice_get site.processes number ≡ Some spec) (file n : ℕ) (opener : Opener) (copy : Copy)
      {stage : Stage} → opener_of site (who.File number file) ≡ Some opener
      → IsLead site ledger number spec (ledger.deeds number) copy stage → process.point copy.core.state ≡ point.Await
      → process.asked_file copy.core.state ≡ file
      → next_on copy.core file ≡ n + 1 → IsNear site ledger (who.File number file) opener n
  near-lead ledger booked number spec there file n opener copy opens lead at named next = by lead
    where
      stands : StandsFor site number spec (ledger.deeds number)
          ((booked-ran fit.regular booked).agrees.processes number spec there).0
      stands = ((booked-ran fit.regular booked).agrees.processes number spec there).2

      near : (more past : List Deed) → ledger.deeds number ≡ more ++ past → AreUncheckpointed more
          → HasDone site number spec past copy.core
          → IsNear site ledger (who.File number file) opener n
      near more past split uncheckpointed done =
          let is = near-file site fit number spec there file n opener (ledger.deeds number) more past opens split
          uncheckpointed stands.done done at named next in
          record { some = is.0; asked = is.1; last = is.2 }

      loud : {acts : List Act} {more : List Deed} → AreHeld site ledger number acts more → acts ≢ []
          → HasDone site number spec (more ++ ledger.deeds number) copy.core
          → IsNear site ledger (who.File number file) opener n
      loud held some done =
          let quiet = quiet-held site fit.regular number spec (fit.disciplined number spec there) there ledger booked
          (Got file []) held some (one_more done (gets at (sym named))) (λ e. absurd (cc)) in
          absurd (cc)

      by : {stage : Stage} → IsLead site ledger number spec (ledger.deeds number) copy stage
          → IsNear site ledger (who.File number file) opener n
      by (is_level is none_held position done sent) = near [] (ledger.deeds number) refl tt done
      by (is_level is (take_held waits) position done sent) = loud (take_held waits) (λ e. absurd (cc)) done
      by (is_level is (step_held held) position done sent) = loud (step_held held) (λ e. absurd (cc)) done
      by (is_applied before none split position done) =
          let last = stands-there (done-last done
          (subst (λ d. HasDone site number spec d stands.core) split stands.done)) in absurd (cc)
      by (is_behind since then before none split again all position done unsent) =
          near (since ++ then ∷ []) before (split ∙ sym (append_assoc since (then ∷ []) before))
          (repeatable-uncheckpointed (since ++ then ∷ []) (repeatable-join since (then ∷ []) all (again, tt))) done

  pub awaited-near : (events : ℕ) (w : World) (inv : Invariant site events w) (asker : ℕ) (one : Who) (n : ℕ)
      (opener : Opener) → opener_of site one ≡ Some opener
      → IsAwaited site w asker one n → IsNear site inv.ledger one opener n
  awaited-near events w inv asker one n opener opens
      (by_copy {number = number} {file = file} pair k at role awaits named next) =
      let process = inv.processes number pair at in
      let leads = acting-leads pair k process.2.led role in
      near-lead inv.ledger inv.booked number process.0 process.1 file n opener (copy_of k pair) opens leads.1 awaits
      named next
  awaited-near events w inv asker one n opener opens (by_terminal {number = number} terminal at awaits) =
      let is = inv.terminals number terminal at in
      record {
        some = omega (arith, awaits);
        asked = omega (arith, is.entered);
        last = λ of placed. (let depth = depth-of site (who.Terminal number) opener of opens placed in
            omega (arith, is.entered, depth));
      }

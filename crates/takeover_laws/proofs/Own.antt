-- One act of a copy that leads: it does anew what was kept, or holds it, or it is kept.
use Rattle.std.proofs.Common.{◌≡◌, ◌≢◌, ℕ, ◌+◌, ℤ, true, List, [], ◌∷◌, ◌++◌, length, Some, slice_get, refl, ap, ap₂}
use Rattle.std.proofs.Common.{sym, ◌∙◌, subst, arith, append_assoc, length-append}
use Rattle.gd_words.specs.declared.device.DeviceCall.{DeviceCall}
use Rattle.tal_tree.specs.declared.act.Act.{Act}
use Rattle.tal_tree.specs.declared.act.Act.TheVariants.{Step}
use Rattle.tal_tree.specs.declared.act.Shown.{Shown}
use Rattle.tal_tree.specs.declared.site.ProcessSpec.{ProcessSpec}
use Rattle.tal_tree.specs.declared.site.Site.{Site}
use Rattle.world_semantics.specs.plain_semantics.specs.Openers.{openers_of}
use Rattle.world_semantics.specs.Core.{Core, Deed, Went, Checkpointed, Took, Asked, Got, Answered, Acted, Advances}
use Rattle.world_semantics.specs.World.{Copy}
use Rattle.world_semantics.specs.Kept.{Enters, holds_on, repeats, begins, keeps, own_acts}
use Rattle.plain_histories.specs.process_histories.specs.Histories.{HasDone, one_more}
use Rattle.plain_histories.specs.process_histories.proofs.Deeds.{done-before, done-last, stands-there}
use Rattle.discipline_laws.specs.Disciplined.{AreUncheckpointed, AreInner, AreIdle, IsDisciplined}
use Rattle.plain_histories.specs.Agreeing.{AreRegular}
use Rattle.plain_histories.specs.Booking.{act_of, IsAllowed, AreBooked, AreHeld, none_held, take_held, step_held}
use Rattle.plain_histories.specs.Ledgers.{Ledger, with_deed}
use Rattle.plain_histories.proofs.Changed.{changed-same}
use Rattle.plain_histories.proofs.Counted.{booked-count}
use Rattle.plain_histories.proofs.Possible.{booked-ran}
use Rattle.takeover_laws.specs.Invariant.{IsRepeatable, Stage, Level, Applied, Behind, IsLead, is_level, is_applied}
use Rattle.takeover_laws.specs.Invariant.{is_behind}
use Rattle.takeover_laws.proofs.Backed.{IsBacked, IsSentBy, IsOld, IsNew, same-deed, not-at-checkpoint, sent-by}
use Rattle.takeover_laws.proofs.Backed.{new-call}
use Rattle.takeover_laws.proofs.Backed.{old-call, allowed-by, got-same, call-same}
use Rattle.takeover_laws.proofs.Repeating.{no-checkpoint, repeatable-uncheckpointed}
use Rattle.takeover_laws.proofs.Stops.{lead-from}
use Rattle.process_semantics.specs.Process as process
use Rattle.process_semantics.specs.declared.point.Point.TheVariants as point

-- what becomes of a lead: the ledger stays, or has the deed
pub data Becomes (site : Site) (kept : List Act) (ledger : Ledger) (number : ℕ) (spec : ProcessSpec) (deed : Deed)
    (stage : Stage) (core : Core) (copy : Copy) (after : List Act) : Type 0 where
  lead_stays : {new : Stage} → after ≡ kept → IsLead site ledger number spec (ledger.deeds number) copy new
      → stage ≢ Applied → (stage ≡ Level → new ≡ Level) → new ≢ Applied
      → IsSentBy site ledger number core deed → IsOld ledger number spec deed
      → Becomes site kept ledger number spec deed stage core copy after
  lead_kept : after ≡ act_of number deed ∷ kept → stage ≡ Level
      → IsSentBy site (with_deed number deed ledger) number core deed → IsNew ledger number spec deed
      → HasDone site number spec (ledger.deeds number) core → IsAllowed site ledger number spec deed → IsRepeatable deed
      → IsLead site (with_deed number deed ledger) number spec (deed ∷ ledger.deeds number) copy Level
      → Becomes site kept ledger number spec deed stage core copy after

inner-first : (deed : Deed) (deeds : List Deed) → AreInner (deed ∷ deeds) → deed ≡ Went
inner-first Went deeds inner = refl
inner-first Checkpointed deeds inner = absurd inner
inner-first (Took place words) deeds inner = absurd inner
inner-first (Asked file words) deeds inner = absurd inner
inner-first (Got file words) deeds inner = absurd inner
inner-first (Answered place words) deeds inner = absurd inner
inner-first (Acted call found) deeds inner = absurd inner

module _ (site : Site) (regular : AreRegular site) (number : ℕ) (spec : ProcessSpec)
    (disciplined : IsDisciplined site number spec)
    (there : slice_get site.processes number ≡ Some spec) {kept : List Act} {shown : List Shown} (ledger : Ledger)
    (booked : AreBooked site kept shown ledger) where
  count : own_acts number kept ≡ length (ledger.deeds number)
  count = booked-count booked number

  -- an act that is no take and is kept at once
  kept-now : (after : List Act) (deed : Deed) (copy : Copy) (next : Core) → after ≡ act_of number deed ∷ kept
      → IsRepeatable deed → copy.position ≡ length (ledger.deeds number)
      → copy.held ≡ [] → HasDone site number spec (ledger.deeds number) copy.core → (copy.sent ≡ true → ⊥)
      → Advances (openers_of site number) copy.core deed next
      → IsAllowed site ledger number spec deed
      → Becomes site kept ledger number spec deed Level copy.core
      (record copy { position = copy.position + 1; core = next }) after
  kept-now after deed copy next is again pos none done unsent advances allowed =
      lead_kept is refl (sent-by site regular number spec there (with_deed number deed ledger) [] (ledger.deeds number)
      (changed-same number (deed ∷ ledger.deeds number) ledger.deeds) done advances)
      (new-call site regular number spec there ledger done advances) done allowed again
      (is_level {more = []} none none_held (omega (arith, pos)) (one_more done advances) (λ sent. absurd (unsent sent)))

  level-free : (after : List Act) (deed : Deed) (copy entered : Copy) (next : Core) → copy.held ≡ []
      → copy.position ≡ length (ledger.deeds number)
      → HasDone site number spec (ledger.deeds number) copy.core → (copy.sent ≡ true → ⊥)
      → Advances (openers_of site number) copy.core deed next → deed ≢ Checkpointed
      → IsAllowed site ledger number spec deed → Enters number (act_of number deed) kept copy entered after
      → Becomes site kept ledger number spec deed Level copy.core (record entered { core = next }) after
  level-free after deed copy entered next none pos done unsent advances other allowed (holds_on held) = absurd (cc)
  level-free after deed copy entered next none pos done unsent advances other allowed (repeats held less) =
      absurd (omega (arith, pos, count, less))
  level-free after (Took place words) copy entered next none pos done unsent advances other allowed
      (begins held most take) =
      lead_stays refl (is_level refl (take_held allowed) pos (one_more done advances) (λ sent. absurd (unsent sent)))
      (λ e. absurd (cc)) (λ e. refl) (λ e. absurd (cc)) tt tt
  level-free after Went copy entered next none pos done unsent advances other allowed (begins held most take) =
      absurd (cc)
  level-free after Checkpointed copy entered next none pos done unsent advances other allowed (begins held most take) =
      absurd (cc)
  level-free after (Asked file words) copy entered next none pos done unsent advances other allowed
      (begins held most take) = absurd (cc)
  level-free after (Got file words) copy entered next none pos done unsent advances other allowed
      (begins held most take) = absurd (cc)
  level-free after (Answered place words) copy entered next none pos done unsent advances other allowed
      (begins held most take) = absurd (cc)
  level-free after (Acted call found) copy entered next none pos done unsent advances other allowed
      (begins held most take) = absurd (cc)
  level-free after (Took place words) copy entered next none pos done unsent advances other allowed
      (keeps held most take) = absurd (cc)
  level-free after Checkpointed copy entered next none pos done unsent advances other allowed (keeps held most take) =
      absurd (other refl)
  level-free after Went copy entered next none pos done unsent advances other allowed (keeps held most take) =
      kept-now _ Went copy next refl tt pos none done unsent advances allowed
  level-free after (Asked file words) copy entered next none pos done unsent advances other allowed
      (keeps held most take) =
      kept-now _ (Asked file words) copy next refl tt pos none done unsent advances allowed
  level-free after (Got file words) copy entered next none pos done unsent advances other allowed
      (keeps held most take) =
      kept-now _ (Got file words) copy next refl tt pos none done unsent advances allowed
  level-free after (Answered place words) copy entered next none pos done unsent advances other allowed
      (keeps held most take) =
      kept-now _ (Answered place words) copy next refl tt pos none done unsent advances allowed
  level-free after (Acted call found) copy entered next none pos done unsent advances other allowed
      (keeps held most take) =
      kept-now _ (Acted call found) copy next refl tt pos none done unsent advances allowed

  -- held deeds are a take and deeds without a checkpoint since
  held-shape : {acts : List Act} {deeds : List Deed} → AreHeld site ledger number acts deeds → acts ≢ []
      → (since : List Deed) × (place : ℕ) × (words : List ℤ) × (deeds ≡ since ++ Took place words ∷ [])
      × AreUncheckpointed since
  held-shape none_held some = absurd (some refl)
  held-shape (take_held {place = place} {words = words} awaits) some = ([], place, words, refl, tt)
  held-shape (step_held held) some =
      let rest = held-shape held (λ e. absurd (cc)) in
      (Went ∷ rest.0, rest.1, rest.2, ap (λ all. Went ∷ all) rest.3, ((λ is. is), rest.4))

  -- so what comes after them is a step inside
  pub quiet-held : {acts : List Act} {deeds : List Deed} (deed : Deed) {core : Core}
      → AreHeld site ledger number acts deeds → acts ≢ []
      → HasDone site number spec (deed ∷ (deeds ++ ledger.deeds number)) core → deed ≢ Checkpointed → deed ≡ Went
  quiet-held deed {core = core} held some done other =
      let shape = held-shape held some in
      let is = ap (λ all. deed ∷ (all ++ ledger.deeds number)) shape.3
      ∙ ap (λ all. deed ∷ all) (append_assoc shape.0 (Took shape.1 shape.2 ∷ []) (ledger.deeds number)) in
      inner-first deed shape.0 (disciplined.quiet (deed ∷ shape.0) (ledger.deeds number) shape.1 shape.2 core
      (subst (λ all. HasDone site number spec all core) is done)
      (no-checkpoint deed other, shape.4))

  level-held : (after : List Act) (deed : Deed) (copy entered : Copy) (next : Core) (held : List Act)
      (more : List Deed) → copy.held ≡ held → held ≢ []
      → AreHeld site ledger number held more → copy.position ≡ length (ledger.deeds number)
      → HasDone site number spec (more ++ ledger.deeds number) copy.core → (copy.sent ≡ true → ⊥)
      → Advances (openers_of site number) copy.core deed next → deed ≢ Checkpointed
      → Enters number (act_of number deed) kept copy entered after
      → Becomes site kept ledger number spec deed Level copy.core (record entered { core = next }) after
  level-held after deed copy entered next held more is some holds pos done unsent advances other enters =
      by held more is some holds done (quiet-held deed holds some (one_more done advances) other) enters
    where
      by : (held : List Act) (more : List Deed) → copy.held ≡ held → held ≢ [] → AreHeld site ledger number held more
          → HasDone site number spec (more ++ ledger.deeds number) copy.core
          → deed ≡ Went → {entered : Copy} {after : List Act}
          → Enters number (act_of number deed) kept copy entered after
          → Becomes site kept ledger number spec deed Level copy.core (record entered { core = next }) after
      by held more is some holds done went (repeats none less) = absurd (some (sym is ∙ none))
      by held more is some holds done went (begins none most take) = absurd (some (sym is ∙ none))
      by held more is some holds done went (keeps none most take) = absurd (some (sym is ∙ none))
      by [] more is some holds done went (holds_on held) = absurd (some refl)
      by (first ∷ acts) [] is some holds done went (holds_on held) = elim holds [ ]
      by (first ∷ acts) (one ∷ more) is some holds done went (holds_on held) =
          let step : act_of number deed ≡ Step number = ap (act_of number) went in
          let inner : Advances (openers_of site number) copy.core Went next =
          subst (λ d. Advances (openers_of site number) copy.core d next) went advances in
          lead_stays refl (is_level (ap₂ (λ (act : Act) all. act ∷ all) step is) (step_held holds) pos
          (one_more done inner) (λ sent. absurd (unsent sent)))
          (λ e. absurd (cc)) (λ e. refl) (λ e. absurd (cc))
          (subst (IsSentBy site ledger number copy.core) (sym went) tt) (subst (IsOld ledger number spec) (sym went) tt)

  pub lead-own : (after : List Act) (deed : Deed) (copy entered : Copy) (next : Core) {stage : Stage}
      → IsLead site ledger number spec (ledger.deeds number) copy stage
      → (copy.sent ≡ true → process.point copy.core.state ≡ point.Await)
      → Advances (openers_of site number) copy.core deed next → deed ≢ Checkpointed
      → IsBacked site ledger number spec copy.core deed
      → Enters number (act_of number deed) kept copy entered after
      → Becomes site kept ledger number spec deed stage copy.core (record entered { core = next }) after
  lead-own after deed copy entered next (is_level is none_held pos done sent) free advances other back enters =
      level-free after deed copy entered next is pos done (λ s. sent s (free s)) advances other
      (allowed-by site regular number spec there ledger booked done advances back) enters
  lead-own after deed copy entered next (is_level is (take_held awaits) pos done sent) free advances other back enters =
      level-held after deed copy entered next _ _ is (λ e. absurd (cc)) (take_held awaits) pos done
      (λ s. sent s (free s)) advances other enters
  lead-own after deed copy entered next (is_level is (step_held held) pos done sent) free advances other back enters =
      level-held after deed copy entered next _ _ is (λ e. absurd (cc)) (step_held held) pos done
      (λ s. sent s (free s)) advances other enters
  lead-own after deed copy entered next (is_applied before is split pos done) free advances other back enters =
      let stands = ((booked-ran regular booked).agrees.processes number spec there).2 in
      absurd (not-at-checkpoint advances other (stands-there
      (done-last done (subst (λ all. HasDone site number spec all stands.core) split stands.done))))
  lead-own after deed copy entered next (is_behind since then before is split one all pos done unsent) free advances
      other back enters =
      let stands = ((booked-ran regular booked).agrees.processes number spec there).2 in
      let old = done-before since (then ∷ before)
      (subst (λ g. HasDone site number spec g stands.core) split stands.done) in
      let same : deed ≡ then = same-deed advances (done-last done old.1) one
      (λ file said words is_got was_got. got-same site regular number spec there ledger booked since before file said
      words
      (subst (λ d. ledger.deeds number ≡ since ++ d ∷ before) was_got split) done
      (subst (λ d. Advances (openers_of site number) copy.core d next) is_got advances)
      (subst (IsBacked site ledger number spec copy.core) is_got back))
      (λ call found words is_call was_call.
      (let at : ledger.deeds number ≡ since ++ Acted call words ∷ before =
      subst (λ d. ledger.deeds number ≡ since ++ d ∷ before) was_call split in
      call-same site regular number spec there ledger booked since before call found words at
      (idle stands.core stands.done call words at)
      (subst (IsBacked site ledger number spec copy.core) is_call back))) in
      by stands.core stands.done (subst (λ d. ledger.deeds number ≡ since ++ d ∷ before) (sym same) split) enters
    where
      idle : (core : Core) → HasDone site number spec (ledger.deeds number) core → (call : DeviceCall) (found : List ℤ)
          → ledger.deeds number ≡ since ++ Acted call found ∷ before → AreIdle since
      idle core whole call found at = disciplined.once since before call found core
          (subst (λ g. HasDone site number spec g core) at whole) (repeatable-uncheckpointed since all)

      by : (core : Core) → HasDone site number spec (ledger.deeds number) core
          → ledger.deeds number ≡ since ++ deed ∷ before → {entered : Copy} {after : List Act}
          → Enters number (act_of number deed) kept copy entered after
          → Becomes site kept ledger number spec deed Behind copy.core (record entered { core = next }) after
      by core whole at (holds_on held) = absurd (cc)
      by core whole at (repeats held less) =
          let new = lead-from site ledger number spec (ledger.deeds number)
          (record copy { position = copy.position + 1; core = next }) since (deed ∷ before) is at all
          (omega (arith, pos))
          (one_more done advances) (λ s. absurd (unsent s (free s))) in
          lead_stays refl new.2 (λ e. absurd (cc)) (λ e. absurd (cc)) new.1
          (sent-by site regular number spec there ledger since before at done advances)
          (old-call site regular number spec there ledger since before at done advances
          (λ call found e. idle core whole call found
          (subst (λ d. ledger.deeds number ≡ since ++ d ∷ before) e at)))
      by core whole at (begins held most take) = let more = ap (length {A = Deed}) at in
          absurd (omega (arith, pos, count, most, more, length-append since (deed ∷ before)))
      by core whole at (keeps held most take) = let more = ap (length {A = Deed}) at in
          absurd (omega (arith, pos, count, most, more, length-append since (deed ∷ before)))

-- Held acts can be kept later, and acts of others leave them as they are.
use Rattle.std.proofs.Common.{◌≡◌, ◌≢◌, inl, inr, ℕ, ℤ, List, ◌∷◌, ◌++◌, length, Some, None, slice_get, refl, ap, sym}
use Rattle.std.proofs.Common.{◌∙◌, subst, arith}
use Rattle.std.proofs.lemmas.Bool.Decides.{eqb_tells}
use Rattle.tal_tree.specs.declared.act.Act.{Act}
use Rattle.tal_tree.specs.declared.act.Shown.{Shown}
use Rattle.tal_tree.specs.declared.site.ProcessSpec.{ProcessSpec}
use Rattle.tal_tree.specs.declared.site.Site.{Site}
use Rattle.tal_tree.specs.declared.site.Who.{Who}
use Rattle.tal_tree.specs.declared.site.Who.TheVariants as who
use Rattle.plain_semantics.specs.Openers.{openers_of, opener_of}
use Rattle.plain_semantics.specs.declared.slot.Opener.{Opener}
use Rattle.process_histories.specs.world_semantics.specs.Core.{Core, Deed, Went, Took, Advances, goes, checkpoints}
use Rattle.process_histories.specs.world_semantics.specs.Core.{takes}
use Rattle.process_histories.specs.world_semantics.specs.Core.{asks, gets, answers, acts}
use Rattle.process_histories.specs.Histories.{HasDone, one_more}
use Rattle.process_histories.specs.Words.{ask_on, awaits_on, one_if}
use Rattle.process_histories.proofs.Counts.{asked-count}
use Rattle.plain_histories.specs.Agreeing.{AreRegular}
use Rattle.plain_histories.specs.Booking.{RequestWaits, AreBooked, deed_booked, AreHeld, none_held, take_held}
use Rattle.plain_histories.specs.Booking.{step_held}
use Rattle.plain_histories.specs.Ledgers.{Ledger, with_deed, with_deeds, with_entered, with_printed, requests_of}
use Rattle.plain_histories.specs.Ledgers.{taken_of, replies_of}
use Rattle.plain_histories.proofs.Changed.{changed-other, deeds-same, requests-still, picked-none}
use Rattle.plain_histories.proofs.Possible.{booked-ran}
use Rattle.plain_histories.proofs.Slots.{next-asked}
use Rattle.plain_histories.proofs.Terminals.{requests-printed}

pub held-booked : {site : Site} {number : ℕ} {spec : ProcessSpec} {kept : List Act} {shown : List Shown}
    {ledger : Ledger} {held : List Act} {deeds : List Deed} {core : Core}
    → AreBooked site kept shown ledger → slice_get site.processes number ≡ Some spec
    → AreHeld site ledger number held deeds
    → HasDone site number spec (deeds ++ ledger.deeds number) core
    → AreBooked site (held ++ kept) shown (with_deeds number deeds ledger)
held-booked booked there none_held done = booked
held-booked {number = number} {spec = spec} booked there (take_held {place = place} {words = words} awaits)
    (one_more {before = before} {after = after} done advances) =
    deed_booked number spec (Took place words) before after booked there done advances awaits
held-booked {site = site} {number = number} {spec = spec} {ledger = ledger} booked there
    (step_held {deed = deed} {deeds = deeds} held) (one_more {before = before} {after = after} done advances) =
    deed_booked number spec Went before after (held-booked booked there held done) there
    (subst (λ all. HasDone site number spec all before) (sym (deeds-same number (deed ∷ deeds) ledger)) done) advances
    tt

-- A request that waits still waits after an act of another process, or of a terminal

-- where all of its requests were replied to, none waits
none-waits : {site : Site} {acts : List Act} {shown : List Shown} {ledger : Ledger} (one : Who) (opener : Opener)
    (words : List ℤ) → AreRegular site
    → AreBooked site acts shown ledger → opener_of site one ≡ Some opener
    → length (requests_of ledger one) ≡ length (replies_of ledger one)
    → requests_of ledger one ≡ words ∷ taken_of ledger opener → ⊥
none-waits one opener words regular booked is even waits =
    let slot = (booked-ran regular booked).agrees.slots one opener is in
    let free = (next-asked words even slot.2).1 in
    omega (arith, ap (length {A = List ℤ}) waits, ap (length {A = List ℤ}) free)

pub awaits-deed : {site : Site} {kept : List Act} {shown : List Shown} {ledger : Ledger} (number : ℕ)
    (spec : ProcessSpec) (deed : Deed) {before after : Core} (opener : Opener)
    (words : List ℤ) → AreRegular site → AreBooked site kept shown ledger → slice_get site.processes number ≡ Some spec
    → HasDone site number spec (ledger.deeds number) before → Advances (openers_of site number) before deed after
    → number ≢ opener.server
    → RequestWaits site ledger opener words → RequestWaits site (with_deed number deed ledger) opener words
awaits-deed {site = site} {ledger = ledger} number spec deed {before = before} opener words regular booked there done
    advances apart (one, is, waits) =
    (one, is, still one is waits ∙ waits ∙ ap (λ all. words ∷ all) (sym same-taken))
  where
    same-taken : taken_of (with_deed number deed ledger) opener ≡ taken_of ledger opener
    same-taken = picked-none _ number deed ledger.deeds opener.server (λ same. absurd (apart same))

    by : (file : ℕ) {d : Deed} {next : Core} → opener_of site (who.File number file) ≡ Some opener
        → requests_of ledger (who.File number file) ≡ words ∷ taken_of ledger opener
        → Advances (openers_of site number) before d next → ask_on file d ≡ None
    by file is waits (goes at) = refl
    by file is waits (checkpoints at) = refl
    by file is waits (takes block at known) = refl
    by file is waits (gets at named) = refl
    by file is waits (answers spec_of block at hand known stood said) = refl
    by file is waits (acts at call) = refl
    by file is waits (asks {file = asked} at named said) = elim (eqb_tells asked file) [
      | inr t ↦ rw t.0 refl
      | inl t ↦
          (let none : one_if (awaits_on before.state file) ≡ 0 = rw at refl in
          absurd (none-waits (who.File number file) opener words regular booked is
          (asked-count (regular number spec there) done file ∙ omega (arith, none)) waits))
    ]

    still : (one : Who) → opener_of site one ≡ Some opener → requests_of ledger one ≡ words ∷ taken_of ledger opener
        → requests_of (with_deed number deed ledger) one ≡ requests_of ledger one
    still one is waits = requests-still number deed ledger one (λ file same.
        by file (ap (opener_of site) (sym same) ∙ is) (ap (requests_of ledger) (sym same) ∙ waits) advances)

pub awaits-entry : {site : Site} {kept : List Act} {shown : List Shown} {ledger : Ledger} (terminal : ℕ)
    (entered : List ℤ) (opener : Opener) (words : List ℤ) → AreRegular site
    → AreBooked site kept shown ledger → length (ledger.entered terminal) ≡ length (ledger.printed terminal)
    → RequestWaits site ledger opener words → RequestWaits site (with_entered terminal entered ledger) opener words
awaits-entry terminal entered opener words regular booked even (who.File process file, is, waits) =
    (who.File process file, is, waits)
awaits-entry {ledger = ledger} terminal entered opener words regular booked even (who.Terminal other, is, waits) =
    elim (eqb_tells terminal other) [
      | inl t ↦
          (let same : length (ledger.entered other)
          ≡ length (ledger.printed other) =
          subst (λ k. length (ledger.entered k) ≡ length (ledger.printed k)) t.1 even in
          absurd (none-waits (who.Terminal other) opener words regular booked is same waits))
      | inr t ↦ (
        who.Terminal other,
        is,
        changed-other terminal other (entered ∷ ledger.entered terminal) ledger.entered
            t.1 ∙ waits,
      )
    ]

pub awaits-reply : (site : Site) (ledger : Ledger) (terminal : ℕ) (printed : List ℤ) (opener : Opener) (words : List ℤ)
    → RequestWaits site ledger opener words → RequestWaits site (with_printed terminal printed ledger) opener words
awaits-reply site ledger terminal printed opener words (one, is, waits) =
    (one, is, requests-printed ledger terminal printed one ∙ waits)

-- so held acts stay so
pub held-stays : {site : Site} {ledger more : Ledger} {number : ℕ} {held : List Act} {deeds : List Deed}
    → ((place : ℕ) (words : List ℤ) → RequestWaits site ledger (record { server = number; place = place }) words
    → RequestWaits site more (record { server = number; place = place }) words)
    → AreHeld site ledger number held deeds → AreHeld site more number held deeds
held-stays still none_held = none_held
held-stays still (take_held {place = place} {words = words} awaits) = take_held (still place words awaits)
held-stays still (step_held held) = step_held (held-stays still held)

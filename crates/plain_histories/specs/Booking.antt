-- Acts as a ledger has them: which deed an act is, and which ledger acts make.
use Rattle.std.specs.Prelude.{◌≡◌, ◌≤◌, ℕ, ℤ, List, [], ◌∷◌, ◌++◌, length, slice_get, Some}
use Rattle.gd_words.specs.declared.limits.TheConstants.{MOST_MESSAGE_WORDS}
use Rattle.tal_tree.specs.declared.act.Act.{Act}
use Rattle.tal_tree.specs.declared.act.Act.TheVariants.{Step, Take, Enter, Print}
use Rattle.tal_tree.specs.declared.act.Shown.{Shown}
use Rattle.tal_tree.specs.declared.act.Shown.TheVariants.{Reply}
use Rattle.tal_tree.specs.declared.site.ProcessSpec.{ProcessSpec}
use Rattle.tal_tree.specs.declared.site.Site.{Site}
use Rattle.tal_tree.specs.declared.site.Who.{Who}
use Rattle.tal_tree.specs.declared.site.Who.TheVariants as who
use Rattle.plain_semantics.specs.declared.slot.Opener.{Opener}
use Rattle.plain_semantics.specs.Machine.{next_request, shown_by_device}
use Rattle.plain_semantics.specs.Openers.{openers_of, opener_of}
use Rattle.process_histories.specs.world_semantics.specs.Core.{Core, Deed, Went, Took, Got, Acted, Advances}
use Rattle.process_histories.specs.world_semantics.specs.Own.{found_on}
use Rattle.process_histories.specs.Devices.{sectors_after}
use Rattle.process_histories.specs.Histories.{HasDone}
use Rattle.plain_histories.specs.Ledgers.{Ledger, empty_ledger, with_deed, with_entered, with_printed, requests_of}
use Rattle.plain_histories.specs.Ledgers.{taken_of, answered_of, replies_of}

-- the act of a process that a deed is
abbrev pub act_of : ℕ → Deed → Act
act_of number (Took place words) = Take number place
act_of number _ = Step number

-- what a deed shows
abbrev pub shown_of : ℕ → Deed → List Shown
shown_of number (Acted call found) = shown_by_device number call
shown_of number _ = []

-- a request of these words waits in the slot of an opener
abbrev pub RequestWaits : Site → Ledger → Opener → List ℤ → Type 0
RequestWaits site ledger opener words =
    (one : Who) × (opener_of site one ≡ Some opener) × (requests_of ledger one ≡ words ∷ taken_of ledger opener)

-- what else than its process a deed needs: a take the request that waits, a reply the answer that waits, and a call of
-- the device what stands there
abbrev pub IsAllowed : Site → Ledger → ℕ → ProcessSpec → Deed → Type 0
IsAllowed site ledger number spec (Took place words) =
    RequestWaits site ledger (record { server = number; place = place }) words
IsAllowed site ledger number spec (Got file words) =
    (opener : Opener) × (opener_of site (who.File number file) ≡ Some opener)
    × (answered_of ledger opener ≡ words ∷ replies_of ledger (who.File number file))
IsAllowed site ledger number spec (Acted call found) =
    found ≡ found_on (sectors_after spec.what (ledger.deeds number)) call
IsAllowed site ledger number spec _ = Unit {0}

-- a deed that a process can do after those that a ledger has, and that is allowed there
pub record CanDo (site : Site) (ledger : Ledger) (number : ℕ) (spec : ProcessSpec) (deed : Deed) : Type 0 where
  pub before : Core
  pub after : Core
  pub done : HasDone site number spec (ledger.deeds number) before
  pub advances : Advances (openers_of site number) before deed after
  pub allowed : IsAllowed site ledger number spec deed

-- acts, the newest first, that show this make this ledger: each is a deed that its process can do and that is allowed,
-- a terminal's next request after it printed all replies, or the reply to its last request
pub data AreBooked (site : Site) : List Act → List Shown → Ledger → Type 0 where
  none_booked : AreBooked site [] [] empty_ledger
  deed_booked : {acts : List Act} {shown : List Shown} {ledger : Ledger} (number : ℕ) (spec : ProcessSpec)
      (deed : Deed) (before after : Core)
      → AreBooked site acts shown ledger → slice_get site.processes number ≡ Some spec
      → HasDone site number spec (ledger.deeds number) before
      → Advances (openers_of site number) before deed after → IsAllowed site ledger number spec deed
      → AreBooked site (act_of number deed ∷ acts) (shown_of number deed ++ shown) (with_deed number deed ledger)
  entry_booked : {acts : List Act} {shown : List Shown} {ledger : Ledger} (terminal : ℕ) (opener : Opener)
      (words : List ℤ)
      → AreBooked site acts shown ledger → opener_of site (who.Terminal terminal) ≡ Some opener
      → length (ledger.entered terminal) ≡ length (ledger.printed terminal)
      → next_request site terminal (length (ledger.entered terminal)) ≡ Some words
      → AreBooked site (Enter terminal ∷ acts) shown (with_entered terminal words ledger)
  reply_booked : {acts : List Act} {shown : List Shown} {ledger : Ledger} (terminal : ℕ) (opener : Opener)
      (words : List ℤ)
      → AreBooked site acts shown ledger → opener_of site (who.Terminal terminal) ≡ Some opener
      → answered_of ledger opener ≡ words ∷ ledger.printed terminal
      → AreBooked site (Print terminal ∷ acts) (Reply terminal (length (ledger.entered terminal)) words ∷ shown)
      (with_printed terminal words ledger)

-- each request of the site's terminals has no more words than its limit
abbrev pub AreShortRequests : Site → Type 0
AreShortRequests site =
    (terminal entered : ℕ) (words : List ℤ) → next_request site terminal entered ≡ Some words
    → length words ≤ MOST_MESSAGE_WORDS

-- Held acts

-- acts of a process that are held, the newest first, and their deeds: none, or the take of a request that waits and
-- steps inside after it
pub data AreHeld (site : Site) (ledger : Ledger) (number : ℕ) : List Act → List Deed → Type 0 where
  none_held : AreHeld site ledger number [] []
  take_held : {place : ℕ} {words : List ℤ} → RequestWaits site ledger (record { server = number; place = place }) words
      → AreHeld site ledger number (Take number place ∷ []) (Took place words ∷ [])
  step_held : {first : Act} {acts : List Act} {deed : Deed} {deeds : List Deed}
      → AreHeld site ledger number (first ∷ acts) (deed ∷ deeds)
      → AreHeld site ledger number (Step number ∷ first ∷ acts) (Went ∷ deed ∷ deeds)

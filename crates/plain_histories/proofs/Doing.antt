-- A deed that is allowed is an act of the machine, which agrees with the ledger after it.
use Rattle.std.proofs.Common.{◌≡◌, ◌≢◌, ◌==◌, ℕ, zero, suc, ◌+◌, ℤ, if◌then◌else◌, List, [], ◌∷◌, length, map, Option}
use Rattle.std.proofs.Common.{Some, None, option_and_then, slice_get, slice_set, refl, ap, sym, ◌∙◌, subst, arith}
use Rattle.std.proofs.Common.{eq-eqb}
use Rattle.gd_words.specs.declared.device.DeviceCall.{DeviceCall}
use Rattle.gd_words.specs.declared.device.DeviceCall.TheVariants as call
use Rattle.tal_tree.specs.declared.act.Act.{Act}
use Rattle.tal_tree.specs.declared.act.Shown.{Shown}
use Rattle.tal_tree.specs.declared.site.ProcessSpec.{ProcessSpec}
use Rattle.tal_tree.specs.declared.site.Site.{Site}
use Rattle.tal_tree.specs.declared.site.Who.{Who}
use Rattle.tal_tree.specs.declared.site.Who.TheVariants as who
use Rattle.plain_semantics.specs.process_semantics.specs.Process as process
use Rattle.plain_semantics.specs.Machine.{Plain, PlainProcess, made, slot_at, with_process, with_slot, written_by}
use Rattle.plain_semantics.specs.Openers.{openers_of, opener_of}
use Rattle.plain_semantics.specs.declared.slot.Opener.{Opener}
use Rattle.plain_semantics.specs.declared.slot.Slot.{Slot}
use Rattle.plain_semantics.specs.declared.slot.Slot.TheVariants.{Empty, Waiting, Taken, Answered}
use Rattle.process_histories.specs.whole_states.specs.Processes.{IsRegularKind}
use Rattle.process_histories.specs.disc_device.specs.Sectors.{Stored}
use Rattle.process_histories.specs.world_semantics.specs.checkpoint_image.specs.Receive.{is_place}
use Rattle.process_histories.specs.world_semantics.specs.Core.{Core, Deed, Went, Checkpointed, Took, Asked, Got}
use Rattle.process_histories.specs.world_semantics.specs.Core.{Answered as Replied, Acted}
use Rattle.process_histories.specs.world_semantics.specs.Core.{Advances, goes, checkpoints, takes, asks, gets}
use Rattle.process_histories.specs.world_semantics.specs.Core.{answers, acts}
use Rattle.process_histories.specs.world_semantics.proofs.Lists.{some-same}
use Rattle.process_histories.specs.Devices.{sectors_after, after_call, FoundWhatStood}
use Rattle.process_histories.specs.Histories.{HasDone, one_more}
use Rattle.process_histories.specs.Words.{take_from, answer_to, ask_on, get_on, requests_on, replies_on, awaits_on}
use Rattle.process_histories.specs.Words.{one_if}
use Rattle.process_histories.proofs.Counts.{if-same, if-other, asked-count, taken-count}
use Rattle.process_histories.proofs.Deeds.{done-one}
use Rattle.process_histories.proofs.Writes.{write-new}
use Rattle.plain_histories.specs.Agreeing.{AreRegular, StandsFor, Agrees, HasSlotOf}
use Rattle.plain_histories.specs.Booking.{act_of, shown_of, IsAllowed}
use Rattle.plain_histories.specs.Ledgers.{Ledger, with_deed, requests_of, taken_of, answered_of}
use Rattle.plain_histories.proofs.Agreeing.{agrees-still, agrees-moved}
use Rattle.plain_histories.proofs.Changed.{picked-some, requests-still, taken-still, answered-still, replies-still}
use Rattle.plain_histories.proofs.Openers.{opener-one}
use Rattle.plain_histories.proofs.Slots.{slot-as, next-taken, next-answered, next-asked, next-got}
use Rattle.plain_histories.proofs.Slotted.{process-there}

-- an act that the machine makes, after which it agrees with a ledger
pub record IsMade (site : Site) (plain : Plain) (act : Act) (said : List Shown) (ledger : Ledger) : Type 0 where
  pub next : Plain
  pub makes : made site plain act ≡ Some (record { plain = next; shown = said })
  pub agrees : Agrees site next ledger

-- Lists and records

set-twice : {A : Type 0} (xs : List A) (i : ℕ) (x y : A) → slice_set (slice_set xs i x) i y ≡ slice_set xs i y
set-twice [] i x y = refl
set-twice (z ∷ xs) zero x y = refl
set-twice (z ∷ xs) (suc i) x y = ap (λ rest. z ∷ rest) (set-twice xs i x y)

abbrev words_in : List Stored → List (List ℤ)
words_in sectors = map (λ (stored : Stored). stored.words) sectors

set-words : (sectors : List Stored) (sector : ℕ) (stored : Stored)
    → slice_set (words_in sectors) sector stored.words ≡ words_in (slice_set sectors sector stored)
set-words [] sector stored = refl
set-words (first ∷ sectors) zero stored = refl
set-words (first ∷ sectors) (suc sector) stored = ap (λ rest. first.words ∷ rest) (set-words sectors sector stored)

-- what a call writes on plain sectors is what it leaves on a device that hasn't this write yet
written-words : {site : Site} {number : ℕ} {spec : ProcessSpec} {deeds : List Deed} {after : Core} (asked : DeviceCall)
    (found : List ℤ)
    → HasDone site number spec (Acted asked found ∷ deeds) after
    → written_by (words_in (sectors_after spec.what deeds)) asked
    ≡ words_in (after_call asked (sectors_after spec.what deeds))
written-words call.Nothing found done = refl
written-words (call.Read sector) found done = refl
written-words {spec = spec} {deeds = deeds} (call.Write sector words write) found done =
    rw (write-new {found = found} done) (set-words (sectors_after spec.what deeds) sector
    (record { words = words; number = write }))

as-fields : (one : PlainProcess) (state : process.ProcessState) (hand : Option ℕ) (sectors : List (List ℤ))
    → one.state ≡ state → one.hand ≡ hand
    → one.sectors ≡ sectors → one ≡ record { state = state; hand = hand; slots = one.slots; sectors = sectors }
as-fields one state hand sectors a b c = rw (← a, ← b, ← c) refl

other-place : (number place : ℕ) (other : Opener) → record { server = number; place = place } ≢ other
    → number ≡ other.server → place ≢ other.place
other-place number place other apart e f = apart (rw (e, f) refl)

-- an asker that isn't this file doesn't ask or get on it
other-file : (number file : ℕ) (words : List ℤ) (one : Who) → one ≢ who.File number file → (f : ℕ)
    → one ≡ who.File number f → (if file == f then Some words else None) ≡ None
other-file number file words one apart f e =
    if-other file f words (λ same. apart (e ∙ ap (λ k. who.File number k) (sym same)))

module _ (site : Site) (plain : Plain) (ledger : Ledger) (number : ℕ) (spec : ProcessSpec) (before : Core)
    (regular : IsRegularKind spec.what) (agrees : Agrees site plain ledger)
    (there : slice_get site.processes number ≡ Some spec)
    (done : HasDone site number spec (ledger.deeds number) before) (slots : List Slot)
    (right : FoundWhatStood spec.what (ledger.deeds number)) where
  abbrev one : PlainProcess
  one = record {
    state = before.state;
    hand = before.receive.in_hand;
    slots = slots;
    sectors = words_in (sectors_after spec.what (ledger.deeds number));
  }

  made-at : {deed : Deed} {after : Core} → slice_get plain.processes number ≡ Some one
      → Advances (openers_of site number) before deed after
      → IsAllowed site ledger number spec deed
      → IsMade site plain (act_of number deed) (shown_of number deed) (with_deed number deed ledger)
  made-at at (goes stands) allowed =
      let now : PlainProcess = record one { state = process.after_inner before.state } in
      record {
        next = with_process number now plain;
        makes = rw (at, stands) refl;
        agrees = agrees-still site plain ledger number spec Went agrees there one now at
            (record {
              core = _;
              done = one_more done (goes stands);
              state = refl;
              hand = refl;
              sectors = refl;
              found = right;
            })
            refl (λ asker opener file is e. refl) (λ place. refl) (λ place. refl) (λ file. refl);
      }
  made-at at (checkpoints stands) allowed =
      let now : PlainProcess = record one { state = process.after_checkpoint before.state } in
      record {
        next = with_process number now plain;
        makes = rw (at, stands) refl;
        agrees = agrees-still site plain ledger number spec Checkpointed agrees there one now at
            (record {
              core = _;
              done = one_more done (checkpoints stands);
              state = refl;
              hand = refl;
              sectors = refl;
              found = right;
            })
            refl (λ asker opener file is e. refl) (λ place. refl) (λ place. refl) (λ file. refl);
      }
  made-at at (acts {call = asked} {found = found} stands is) allowed =
      let now : PlainProcess = record one {
        state = process.after_device before.state found;
        sectors = words_in (after_call asked (sectors_after spec.what (ledger.deeds number)));
      } in
      let more : HasDone site number spec (Acted asked found ∷ ledger.deeds number)
      (record before { state = process.after_device before.state found }) = one_more done (acts stands is) in
      record {
        next = with_process number now plain;
        makes = rw (at, stands, ← is, ← allowed, written-words asked found more) refl;
        agrees = agrees-still site plain ledger number spec (Acted asked found) agrees there one now at
            (record { core = _; done = more; state = refl; hand = refl; sectors = refl; found = (allowed, right) })
            refl (λ asker opener file is e. refl) (λ place. refl) (λ place. refl) (λ file. refl);
      }
  made-at at (takes {place = place} {words = words} block stands known) allowed =
      let opener : Opener = record { server = number; place = place } in
      let now : PlainProcess = record one { state = process.after_took before.state words; hand = Some place } in
      let old = agrees.slots allowed.0 opener allowed.1 in
      let step = next-taken words allowed.2 old.2 in
      let in_slot : slice_get slots place ≡ Some (Waiting words) =
      ap (option_and_then (λ (server : PlainProcess). slice_get server.slots place)) (sym at) ∙ old.1
      ∙ ap Some step.0 in
      let next_is : with_slot (Some opener) Taken (with_process number now plain)
      ≡ with_process number (record now { slots = slice_set slots place Taken }) plain =
      rw (process-there plain number one now at)
      (ap (λ (all : List PlainProcess). record plain { processes = all })
      (set-twice plain.processes number now (record now { slots = slice_set slots place Taken }))) in
      record {
        next = with_slot (Some opener) Taken (with_process number now plain);
        makes = rw (at, stands, in_slot) (ap (λ (next : Plain). Some (record { plain = next; shown = [] }))
            (sym next_is));
        agrees = agrees-moved site plain ledger number spec (Took place words) agrees there one now at opener Taken
            (record {
              core = _;
              done = one_more done (takes block stands known);
              state = refl;
              hand = refl;
              sectors = refl;
              found = right;
            }) refl
            (λ asker slot is has.
            let same : allowed.0 ≡ asker = opener-one site allowed.0 asker opener allowed.1 is in
            let waits : requests_of ledger asker ≡ words ∷ taken_of ledger opener =
            subst (λ (w : Who). requests_of ledger w ≡ words ∷ taken_of ledger opener) same allowed.2 in
            slot-as (requests-still number (Took place words) ledger asker (λ file e. refl))
            (picked-some (take_from place) number (Took place words) words ledger.deeds (if-same place words))
            (answered-still number (Took place words) ledger opener (λ e. refl))
            (replies-still number (Took place words) ledger asker (λ file e. refl))
            (next-taken words waits has).1)
            (λ asker other slot is apart has.
            slot-as (requests-still number (Took place words) ledger asker (λ file e. refl))
            (taken-still number (Took place words) ledger other
            (λ e. if-other place other.place words (other-place number place other apart e)))
            (answered-still number (Took place words) ledger other (λ e. refl))
            (replies-still number (Took place words) ledger asker (λ file e. refl)) has);
      }
  made-at at (answers {place = place} {words = words} spec_of block stands hand known stood said) allowed =
      let opener : Opener = record { server = number; place = place } in
      let now : PlainProcess = record one { state = process.after_answered before.state; hand = None } in
      let held : one_if (is_place before.receive.in_hand place) ≡ 1 = rw (hand, eq-eqb place place refl) refl in
      let count : length (taken_of ledger opener) ≡ length (answered_of ledger opener) + 1 =
      taken-count done place ∙ omega (arith, held) in
      record {
        next = with_slot (Some opener) (Answered words) (with_process number now plain);
        makes = rw (at, stands, hand, ← said) refl;
        agrees = agrees-moved site plain ledger number spec (Replied place words) agrees there one now at opener
            (Answered words)
            (record {
              core = _;
              done = one_more done (answers spec_of block stands hand known stood said);
              state = refl;
              hand = refl;
              sectors = refl;
              found = right;
            }) refl
            (λ asker slot is has.
            slot-as (requests-still number (Replied place words) ledger asker (λ file e. refl))
            (taken-still number (Replied place words) ledger opener (λ e. refl))
            (picked-some (answer_to place) number (Replied place words) words ledger.deeds (if-same place words))
            (replies-still number (Replied place words) ledger asker (λ file e. refl)) (next-answered words count has))
            (λ asker other slot is apart has.
            slot-as (requests-still number (Replied place words) ledger asker (λ file e. refl))
            (taken-still number (Replied place words) ledger other (λ e. refl))
            (answered-still number (Replied place words) ledger other
            (λ e. if-other place other.place words (other-place number place other apart e)))
            (replies-still number (Replied place words) ledger asker (λ file e. refl)) has);
      }
  made-at at (asks {file = file} {words = words} stands named said) allowed = record {
    next = with_slot (opener_of site (who.File number file)) (Waiting words) (with_process number now plain);
    makes = rw (at, stands, ← named, ← said) refl;
    agrees = by (opener_of site (who.File number file)) refl;
  }
    where
      now : PlainProcess
      now = record one { state = process.after_asked before.state }

      even : length (requests_on file (ledger.deeds number)) ≡ length (replies_on file (ledger.deeds number))
      even = let none : one_if (awaits_on before.state file) ≡ 0 =
          rw stands refl in asked-count regular done file ∙ omega (arith, none)

      stand : StandsFor site number spec (Asked file words ∷ ledger.deeds number) now
      stand = record {
        core = _;
        done = one_more done (asks stands named said);
        state = refl;
        hand = refl;
        sectors = refl;
        found = right;
      }

      by : (opener : Option Opener) → opener_of site (who.File number file) ≡ opener
          → Agrees site (with_slot opener (Waiting words) (with_process number now plain))
          (with_deed number (Asked file words) ledger)
      by None none = agrees-still site plain ledger number spec (Asked file words) agrees there one now at stand refl
          (λ asker opener f is e. other-file number file words asker
          (λ same. let here : opener_of site (who.File number file) ≡ Some opener = ap (opener_of site) (sym same)
          ∙ is in absurd (cc)) f e)
          (λ place. refl) (λ place. refl) (λ file. refl)
      by (Some opener) is = agrees-moved site plain ledger number spec (Asked file words) agrees there one now at
          opener (Waiting words) stand refl
          (λ asker slot here has.
          let same : who.File number file ≡ asker = opener-one site (who.File number file) asker opener is here in
          subst (λ (w : Who). HasSlotOf (with_deed number (Asked file words) ledger) w opener (Waiting words)) same
          (slot-as (picked-some (ask_on file) number (Asked file words) words ledger.deeds (if-same file words))
          (taken-still number (Asked file words) ledger opener (λ e. refl))
          (answered-still number (Asked file words) ledger opener (λ e. refl))
          (replies-still number (Asked file words) ledger (who.File number file) (λ f e. refl))
          (next-asked words even (subst (λ (w : Who). HasSlotOf ledger w opener slot) (sym same) has)).2))
          (λ asker other slot here apart has.
          slot-as (requests-still number (Asked file words) ledger asker
          (other-file number file words asker (λ e. apart (some-same (sym is ∙ ap (opener_of site) (sym e) ∙ here)))))
          (taken-still number (Asked file words) ledger other (λ e. refl))
          (answered-still number (Asked file words) ledger other (λ e. refl))
          (replies-still number (Asked file words) ledger asker (λ f e. refl)) has)
  made-at at (gets {file = file} {words = words} stands named) allowed =
      let old = agrees.slots (who.File number file) allowed.0 allowed.1 in
      let step = next-got words allowed.2 old.2 in
      let ready : slot_at plain allowed.0 ≡ Some (Answered words) = old.1 ∙ ap Some step.0 in
      let now : PlainProcess = record one { state = process.after_got before.state words } in
      record {
        next = with_slot (Some allowed.0) Empty (with_process number now plain);
        makes = rw (at, stands, ← named, allowed.1, ready) refl;
        agrees = agrees-moved site plain ledger number spec (Got file words) agrees there one now at allowed.0 Empty
            (record {
              core = _;
              done = one_more done (gets stands named);
              state = refl;
              hand = refl;
              sectors = refl;
              found = right;
            }) refl
            (λ asker slot here has.
            let same : who.File number file ≡ asker =
            opener-one site (who.File number file) asker allowed.0 allowed.1 here in
            subst (λ (w : Who). HasSlotOf (with_deed number (Got file words) ledger) w allowed.0 Empty) same
            (slot-as (requests-still number (Got file words) ledger (who.File number file) (λ f e. refl))
            (taken-still number (Got file words) ledger allowed.0 (λ e. refl))
            (answered-still number (Got file words) ledger allowed.0 (λ e. refl))
            (picked-some (get_on file) number (Got file words) words ledger.deeds (if-same file words)) step.1))
            (λ asker other slot here apart has.
            slot-as (requests-still number (Got file words) ledger asker (λ f e. refl))
            (taken-still number (Got file words) ledger other (λ e. refl))
            (answered-still number (Got file words) ledger other (λ e. refl))
            (replies-still number (Got file words) ledger asker
            (other-file number file words asker (λ e.
            apart (some-same (sym allowed.1 ∙ ap (opener_of site) (sym e) ∙ here))))) has);
      }

pub deed-made : (site : Site) (plain : Plain) (ledger : Ledger) (number : ℕ) (spec : ProcessSpec) (deed : Deed)
    (before after : Core) → AreRegular site → Agrees site plain ledger
    → slice_get site.processes number ≡ Some spec → HasDone site number spec (ledger.deeds number) before
    → Advances (openers_of site number) before deed after
    → IsAllowed site ledger number spec deed
    → IsMade site plain (act_of number deed) (shown_of number deed) (with_deed number deed ledger)
deed-made site plain ledger number spec deed before after regular agrees there done advances allowed =
    let its = agrees.processes number spec there in
    let same : its.2.core ≡ before = done-one its.2.done done in
    let fields = as-fields its.0 before.state before.receive.in_hand _ (its.2.state ∙ ap (λ (c : Core). c.state) same)
    (its.2.hand ∙ ap (λ (c : Core). c.receive.in_hand) same) its.2.sectors in
    made-at site plain ledger number spec before (regular number spec there) agrees there done its.0.slots its.2.found
    (its.1 ∙ ap Some fields) advances allowed

-- A machine after a change of one process and one slot agrees with the ledger after one deed.
use Rattle.std.proofs.Common.{◌≡◌, ◌≢◌, ◌⊎◌, inl, inr, ℕ, List, ◌∷◌, Option, Some, None, slice_get, refl, ap, sym, ◌∙◌}
use Rattle.std.proofs.Common.{subst}
use Rattle.std.proofs.lemmas.Bool.Decides.{eqb_tells}
use Rattle.tal_tree.specs.declared.site.ProcessSpec.{ProcessSpec}
use Rattle.tal_tree.specs.declared.site.Site.{Site}
use Rattle.tal_tree.specs.declared.site.Who.{Who}
use Rattle.tal_tree.specs.declared.site.Who.TheVariants as who
use Rattle.plain_semantics.specs.Machine.{Plain, PlainProcess, slot_at, with_process, with_slot, slot_put}
use Rattle.plain_semantics.specs.Openers.{opener_of}
use Rattle.plain_semantics.specs.declared.slot.Opener.{Opener}
use Rattle.plain_semantics.specs.declared.slot.Slot.{Slot}
use Rattle.plain_semantics.specs.declared.slot.Slot.TheVariants.{Empty}
use Rattle.process_histories.specs.world_semantics.specs.Core.{Deed}
use Rattle.process_histories.specs.world_semantics.proofs.Lists.{some-same}
use Rattle.process_histories.specs.Words.{take_from, answer_to, ask_on, get_on}
use Rattle.plain_histories.specs.Agreeing.{StandsFor, Agrees, HasSlotOf}
use Rattle.plain_histories.specs.Ledgers.{Ledger, with_deed}
use Rattle.plain_histories.proofs.Changed.{changed-same, changed-other, requests-still, taken-still, answered-still}
use Rattle.plain_histories.proofs.Changed.{replies-still}
use Rattle.plain_histories.proofs.Slots.{slot-as}
use Rattle.plain_histories.proofs.Slotted.{AreAlike, slot-same, slot-other, slot-alike, process-there, process-other}
use Rattle.plain_histories.proofs.Slotted.{process-slots}

pub same-opener : (one other : Opener) → (one ≡ other) ⊎ (one ≢ other)
same-opener one other = elim (eqb_tells one.server other.server) [
  | inl t ↦ elim (eqb_tells one.place other.place) [
    | inl u ↦ inl (rw (t.1, u.1) refl)
    | inr u ↦ inr (λ e. u.1 (ap (λ (o : Opener). o.place) e))
  ]
  | inr t ↦ inr (λ e. t.1 (ap (λ (o : Opener). o.server) e))
]

pub stands-alike : {site : Site} {number : ℕ} {spec : ProcessSpec} {deeds : List Deed} {one other : PlainProcess}
    → AreAlike one other
    → StandsFor site number spec deeds one → StandsFor site number spec deeds other
stands-alike alike is = record {
  core = is.core;
  done = is.done;
  state = alike.state ∙ is.state;
  hand = alike.hand ∙ is.hand;
  sectors = alike.sectors ∙ is.sectors;
  found = is.found;
}

pub slot-entered : (opener : Option Opener) (slot : Slot) (plain : Plain)
    → (with_slot opener slot plain).entered ≡ plain.entered
slot-entered None slot plain = refl
slot-entered (Some opener) slot plain = by (slice_get plain.processes opener.server)
  where
    by : (server : Option PlainProcess) → (slot_put opener slot plain server).entered ≡ plain.entered
    by None = refl
    by (Some server) = refl

-- all slots of a machine are as a ledger leaves them
abbrev pub AreSlotsOf : Site → Plain → Ledger → Type 0
AreSlotsOf site plain ledger =
    (one : Who) (opener : Opener) → opener_of site one ≡ Some opener
    → (slot : Slot) × (slot_at plain opener ≡ Some slot) × HasSlotOf ledger one opener slot

-- a slot was changed: that of one opener is as the ledger after it has it, and those of the others are as they were
pub slots-moved : (site : Site) (plain : Plain) (ledger more : Ledger) (opener : Opener) (slot : Slot)
    → AreSlotsOf site plain ledger
    → ((one : Who) (old : Slot) → opener_of site one ≡ Some opener → HasSlotOf ledger one opener old
    → HasSlotOf more one opener slot)
    → ((one : Who) (other : Opener) (old : Slot) → opener_of site one ≡ Some other → opener ≢ other
    → HasSlotOf ledger one other old → HasSlotOf more one other old)
    → AreSlotsOf site (with_slot (Some opener) slot plain) more
slots-moved site plain ledger more opener slot slots moved others one other is = elim (same-opener opener other) [
  | inl e ↦
      (let here : opener_of site one ≡ Some opener = is ∙ ap Some (sym e) in
      let old = slots one opener here in (
        slot,
        subst (λ q. slot_at (with_slot (Some opener) slot plain) q ≡ Some slot) e
            (slot-same plain opener old.0 slot old.1),
        subst (λ q. HasSlotOf more one q slot) e (moved one old.0 here old.2),
      ))
  | inr apart ↦
      (let old = slots one other is in (
        old.0,
        slot-other plain opener other slot apart
            ∙ old.1,
        others one other old.0 is apart old.2,
      ))
]

module _ (site : Site) (plain : Plain) (ledger : Ledger) (number : ℕ) (spec : ProcessSpec) (deed : Deed)
    (agrees : Agrees site plain ledger)
    (there : slice_get site.processes number ≡ Some spec) (one now : PlainProcess)
    (at : slice_get plain.processes number ≡ Some one) where
  agrees-after : (opener : Option Opener) (slot : Slot) → StandsFor site number spec (deed ∷ ledger.deeds number) now
      → AreSlotsOf site (with_slot opener slot (with_process number now plain)) (with_deed number deed ledger)
      → Agrees site (with_slot opener slot (with_process number now plain)) (with_deed number deed ledger)
  agrees-after opener slot stands slots = record {
    processes = λ other its is. elim (eqb_tells number other) [
      | inl t ↦
          (let same : spec ≡ its = some-same (sym there ∙ ap (slice_get site.processes) t.1 ∙ is) in
          let new = slot-alike (with_process number now plain) opener slot number now
          (process-there plain number one now at) in (
            new.0,
            subst (λ k. slice_get (with_slot opener slot (with_process number now plain)).processes k ≡ Some new.0) t.1
                new.1,
            subst (λ (s : ProcessSpec). StandsFor site other s ((with_deed number deed ledger).deeds other) new.0) same
                (subst (λ k. StandsFor site k spec ((with_deed number deed ledger).deeds k) new.0) t.1
                (subst (λ all. StandsFor site number spec all new.0)
                (sym (changed-same number (deed ∷ ledger.deeds number) ledger.deeds)) (stands-alike new.2 stands))),
          ))
      | inr t ↦
          (let old = agrees.processes other its is in
          let new = slot-alike (with_process number now plain) opener slot other old.0
          (process-other plain number other now t.1 ∙ old.1) in (
            new.0,
            new.1,
            subst (λ all. StandsFor site other its all new.0)
                (sym (changed-other number other (deed ∷ ledger.deeds number) ledger.deeds t.1))
                (stands-alike new.2 old.2),
          ))
    ];
    slots = slots;
    entered = λ terminal its is.
        ap (λ (all : List ℕ). slice_get all terminal) (slot-entered opener slot (with_process number now plain))
        ∙ agrees.entered terminal its is;
  }

  -- the slots of a machine of which a process was changed but for its slots
  slots-same : now.slots ≡ one.slots → AreSlotsOf site (with_process number now plain) ledger
  slots-same same asker opener is = let old = agrees.slots asker opener is in
      (old.0, process-slots plain number one now opener at same ∙ old.1, old.2)

  -- a deed that touches no slot
  pub agrees-still : StandsFor site number spec (deed ∷ ledger.deeds number) now → now.slots ≡ one.slots
      → ((asker : Who) (opener : Opener) (file : ℕ) → opener_of site asker ≡ Some opener → asker ≡ who.File number file
      → ask_on file deed ≡ None)
      → ((place : ℕ) → take_from place deed ≡ None) → ((place : ℕ) → answer_to place deed ≡ None)
      → ((file : ℕ) → get_on file deed ≡ None)
      → Agrees site (with_process number now plain) (with_deed number deed ledger)
  agrees-still stands same asks takes answers gets =
      agrees-after None Empty stands (λ asker opener is.
      let old = slots-same same asker opener is in (
        old.0,
        old.1,
        slot-as (requests-still number deed ledger asker (λ file e. asks asker opener file is e))
            (taken-still number deed ledger opener (λ e. takes opener.place))
            (answered-still number deed ledger opener (λ e. answers opener.place))
            (replies-still number deed ledger asker (λ file e. gets file)) old.2,
      ))

  -- a deed that touches one slot
  pub agrees-moved : (opener : Opener) (slot : Slot) → StandsFor site number spec (deed ∷ ledger.deeds number) now
      → now.slots ≡ one.slots
      → ((asker : Who) (old : Slot) → opener_of site asker ≡ Some opener → HasSlotOf ledger asker opener old
      → HasSlotOf (with_deed number deed ledger) asker opener slot)
      → ((asker : Who) (other : Opener) (old : Slot) → opener_of site asker ≡ Some other → opener ≢ other
      → HasSlotOf ledger asker other old
      → HasSlotOf (with_deed number deed ledger) asker other old)
      → Agrees site (with_slot (Some opener) slot (with_process number now plain)) (with_deed number deed ledger)
  agrees-moved opener slot stands same moved others =
      agrees-after (Some opener) slot stands (slots-moved site (with_process number now plain) ledger
      (with_deed number deed ledger) opener slot (slots-same same) moved others)

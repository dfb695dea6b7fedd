-- Entering and printing are acts of the machine, which agrees with the ledger after them.
use Rattle.std.proofs.Common.{◌≡◌, ◌≢◌, inl, inr, ℕ, ◌+◌, ℤ, List, [], ◌∷◌, length, Some, slice_get, slice_set, refl}
use Rattle.std.proofs.Common.{ap, sym, ◌∙◌, subst, arith}
use Rattle.std.specs.Option.{unwrap_or}
use Rattle.std.proofs.lemmas.Bool.Decides.{eqb_tells}
use Rattle.tal_tree.specs.declared.act.Act.TheVariants.{Enter, Print}
use Rattle.tal_tree.specs.declared.act.Shown.TheVariants.{Reply}
use Rattle.tal_tree.specs.declared.site.Site.{Site}
use Rattle.tal_tree.specs.declared.site.Who.{Who}
use Rattle.tal_tree.specs.declared.site.Who.TheVariants as who
use Rattle.plain_semantics.specs.Machine.{Plain, next_request, slot_at, with_slot}
use Rattle.plain_semantics.specs.Openers.{opener_of}
use Rattle.plain_semantics.specs.declared.slot.Opener.{Opener}
use Rattle.plain_semantics.specs.declared.slot.Slot.{Slot}
use Rattle.plain_semantics.specs.declared.slot.Slot.TheVariants.{Empty, Waiting, Answered}
use Rattle.process_histories.specs.world_semantics.proofs.Lists.{some-same, set-there, set-other}
use Rattle.plain_histories.specs.Agreeing.{Agrees, HasSlotOf}
use Rattle.plain_histories.specs.Ledgers.{Ledger, with_entered, with_printed, requests_of, answered_of, replies_of}
use Rattle.plain_histories.proofs.Agreeing.{AreSlotsOf, slots-moved, slot-entered, stands-alike}
use Rattle.plain_histories.proofs.Changed.{changed-same, changed-other}
use Rattle.plain_histories.proofs.Doing.{IsMade}
use Rattle.plain_histories.proofs.Openers.{opener-one, opener-terminal}
use Rattle.plain_histories.proofs.Slots.{slot-as, next-asked, next-got}
use Rattle.plain_histories.proofs.Slotted.{slot-alike}

-- the slot of a terminal was changed, and the slots of the others are as they were
terminal-moved : (site : Site) (plain : Plain) (ledger more : Ledger) (terminal : ℕ) (opener : Opener) (slot : Slot)
    → AreSlotsOf site plain ledger
    → opener_of site (who.Terminal terminal) ≡ Some opener
    → ((old : Slot) → HasSlotOf ledger (who.Terminal terminal) opener old
    → HasSlotOf more (who.Terminal terminal) opener slot)
    → ((one : Who) (other : Opener) (old : Slot) → one ≢ who.Terminal terminal → HasSlotOf ledger one other old
    → HasSlotOf more one other old)
    → AreSlotsOf site (with_slot (Some opener) slot plain) more
terminal-moved site plain ledger more terminal opener slot slots here moved others =
    slots-moved site plain ledger more opener slot slots
    (λ one old is has.
    let same : who.Terminal terminal ≡ one = opener-one site (who.Terminal terminal) one opener here is in
    subst (λ (w : Who). HasSlotOf more w opener slot) same
    (moved old (subst (λ (w : Who). HasSlotOf ledger w opener old) (sym same) has)))
    (λ one other old is apart has. others one other old
    (λ e. apart (some-same (sym here ∙ ap (opener_of site) (sym e) ∙ is))) has)

-- What the words of one terminal leave of the others' lists

terminal-apart : (terminal other : ℕ) → who.Terminal other ≢ who.Terminal terminal → terminal ≢ other
terminal-apart terminal other apart e = apart (ap (λ k. who.Terminal k) (sym e))

pub entered-other : (ledger : Ledger) (terminal : ℕ) (words : List ℤ) (one : Who) → one ≢ who.Terminal terminal
    → requests_of (with_entered terminal words ledger) one ≡ requests_of ledger one
entered-other ledger terminal words (who.File process file) apart = refl
entered-other ledger terminal words (who.Terminal other) apart =
    changed-other terminal other (words ∷ ledger.entered terminal) ledger.entered (terminal-apart terminal other apart)

replies-entered : (ledger : Ledger) (terminal : ℕ) (words : List ℤ) (one : Who)
    → replies_of (with_entered terminal words ledger) one ≡ replies_of ledger one
replies-entered ledger terminal words (who.File process file) = refl
replies-entered ledger terminal words (who.Terminal other) = refl

printed-other : (ledger : Ledger) (terminal : ℕ) (words : List ℤ) (one : Who) → one ≢ who.Terminal terminal
    → replies_of (with_printed terminal words ledger) one ≡ replies_of ledger one
printed-other ledger terminal words (who.File process file) apart = refl
printed-other ledger terminal words (who.Terminal other) apart =
    changed-other terminal other (words ∷ ledger.printed terminal) ledger.printed (terminal-apart terminal other apart)

pub requests-printed : (ledger : Ledger) (terminal : ℕ) (words : List ℤ) (one : Who)
    → requests_of (with_printed terminal words ledger) one ≡ requests_of ledger one
requests-printed ledger terminal words (who.File process file) = refl
requests-printed ledger terminal words (who.Terminal other) = refl

pub entry-made : (site : Site) (plain : Plain) (ledger : Ledger) (terminal : ℕ) (opener : Opener) (words : List ℤ)
    → Agrees site plain ledger
    → opener_of site (who.Terminal terminal) ≡ Some opener
    → length (ledger.entered terminal) ≡ length (ledger.printed terminal)
    → next_request site terminal (length (ledger.entered terminal)) ≡ Some words
    → IsMade site plain (Enter terminal) [] (with_entered terminal words ledger)
entry-made site plain ledger terminal opener words agrees is even next =
    let old = agrees.slots (who.Terminal terminal) opener is in
    let empty : slot_at plain opener ≡ Some Empty = old.1 ∙ ap Some (next-asked words even old.2).0 in
    let its = opener-terminal site terminal opener is in
    let count : slice_get plain.entered terminal ≡ Some (length (ledger.entered terminal)) =
    agrees.entered terminal its.0 its.1 in
    let after : Plain =
    record plain { entered = slice_set plain.entered terminal (length (ledger.entered terminal) + 1) } in
    record {
      next = with_slot (Some opener) (Waiting words) after;
      makes = rw (is, empty, count, next)
          (ap (λ k. Some (record {
            plain = with_slot (Some opener) (Waiting words)
                (record plain { entered = slice_set plain.entered terminal (k + 1) });
            shown = [];
          }))
          (ap (λ o. unwrap_or o 0) count));
      agrees = record {
        processes = λ other spec there. let one = agrees.processes other spec there in
            let new = slot-alike after (Some opener) (Waiting words) other one.0 one.1 in
            (new.0, new.1, stands-alike new.2 one.2);
        slots = terminal-moved site after ledger (with_entered terminal words ledger) terminal opener (Waiting words)
            agrees.slots is
            (λ slot has. slot-as (changed-same terminal (words ∷ ledger.entered terminal) ledger.entered) refl refl
            refl (next-asked words even has).2)
            (λ one other slot apart has. slot-as (entered-other ledger terminal words one apart) refl refl
            (replies-entered ledger terminal words one) has);
        entered = λ other spec there. ap (λ (all : List ℕ). slice_get all other)
            (slot-entered (Some opener) (Waiting words) after) ∙ elim (eqb_tells terminal other) [
              | inl t ↦
                  subst (λ k. slice_get (slice_set plain.entered terminal (length (ledger.entered terminal) + 1)) k
                  ≡ Some (length ((with_entered terminal words ledger).entered k))) t.1
                  (set-there plain.entered terminal _ (length (ledger.entered terminal) + 1) count
                  ∙ ap Some (sym (ap length (changed-same terminal (words ∷ ledger.entered terminal) ledger.entered)
                  ∙ omega arith)))
              | inr t ↦ set-other plain.entered terminal other (length (ledger.entered terminal) + 1) t.1
                  ∙ agrees.entered other spec there
                  ∙ ap (λ all. Some (length all)) (sym (changed-other terminal other (words ∷ ledger.entered terminal)
                  ledger.entered t.1))
            ];
      };
    }

pub reply-made : (site : Site) (plain : Plain) (ledger : Ledger) (terminal : ℕ) (opener : Opener) (words : List ℤ)
    → Agrees site plain ledger
    → opener_of site (who.Terminal terminal) ≡ Some opener → answered_of ledger opener ≡ words ∷ ledger.printed terminal
    → IsMade site plain (Print terminal) (Reply terminal (length (ledger.entered terminal)) words ∷ [])
    (with_printed terminal words ledger)
reply-made site plain ledger terminal opener words agrees is ready =
    let old = agrees.slots (who.Terminal terminal) opener is in
    let answered : slot_at plain opener ≡ Some (Answered words) = old.1 ∙ ap Some (next-got words ready old.2).0 in
    let its = opener-terminal site terminal opener is in
    let count : slice_get plain.entered terminal ≡ Some (length (ledger.entered terminal)) =
    agrees.entered terminal its.0 its.1 in
    record {
      next = with_slot (Some opener) Empty plain;
      makes = rw (is, answered, count) refl;
      agrees = record {
        processes = λ other spec there. let one = agrees.processes other spec there in
            let new = slot-alike plain (Some opener) Empty other one.0 one.1 in
            (new.0, new.1, stands-alike new.2 one.2);
        slots = terminal-moved site plain ledger (with_printed terminal words ledger) terminal opener Empty
            agrees.slots is
            (λ slot has. slot-as refl refl refl (changed-same terminal (words ∷ ledger.printed terminal)
            ledger.printed) (next-got words ready has).1)
            (λ one other slot apart has. slot-as (requests-printed ledger terminal words one) refl refl
            (printed-other ledger terminal words one apart) has);
        entered = λ other spec there. ap (λ (all : List ℕ). slice_get all other)
            (slot-entered (Some opener) Empty plain) ∙ agrees.entered other spec there;
      };
    }

-- Words keep their numbers in lists that only grow, and a number tells what stands in a slot.
use Rattle.std.proofs.Common.{◌≡◌, ◌≤◌, inl, inr, ℕ, ◌+◌, ℤ, List, [], ◌∷◌, ◌++◌, length, Option, Some, None}
use Rattle.std.proofs.Common.{filter_map, refl, ap, sym, subst, arith}
use Rattle.std.specs.List.{cons_option}
use Rattle.std.proofs.lemmas.Bool.Decides.{eqb_tells}
use Rattle.tal_tree.specs.declared.site.Who.{Who}
use Rattle.tal_tree.specs.declared.site.Who.TheVariants as who
use Rattle.plain_semantics.specs.declared.slot.Opener.{Opener}
use Rattle.plain_semantics.specs.declared.slot.Slot.{Slot}
use Rattle.plain_semantics.specs.declared.slot.Slot.TheVariants.{Waiting, Answered}
use Rattle.process_histories.specs.world_semantics.specs.Core.{Deed}
use Rattle.process_histories.specs.world_semantics.specs.Laws.{HasGrown}
use Rattle.process_histories.specs.world_semantics.proofs.Lists.{grown-none, grown-one}
use Rattle.process_histories.specs.Words.{answer_to, ask_on}
use Rattle.plain_histories.specs.Ledgers.{changed_at, Ledger, with_deed, with_entered, requests_of, answered_of}
use Rattle.plain_histories.specs.Slots.{IsSlot, is_empty, is_waiting, is_taken, is_answered, IsEntry, is_newest}
use Rattle.plain_histories.specs.Slots.{is_older}

pub entry-most : {number : ℕ} {words : List ℤ} {all : List (List ℤ)} → IsEntry number words all → number ≤ length all
entry-most (is_newest e) = omega (arith, e)
entry-most (is_older entry) = let most = entry-most entry in omega (arith, most)

pub entry-one : {number : ℕ} {words other : List ℤ} {all : List (List ℤ)} → IsEntry number words all
    → IsEntry number other all → words ≡ other
entry-one (is_newest e) (is_newest f) = refl
entry-one (is_newest e) (is_older entry) = let most = entry-most entry in absurd (omega (arith, e, most))
entry-one (is_older entry) (is_newest e) = let most = entry-most entry in absurd (omega (arith, e, most))
entry-one (is_older entry) (is_older other) = entry-one entry other

pub entry-longer : {number : ℕ} {words : List ℤ} {all : List (List ℤ)} (more : List (List ℤ))
    → IsEntry number words all → IsEntry number words (more ++ all)
entry-longer [] entry = entry
entry-longer (newest ∷ more) entry = is_older (entry-longer more entry)

pub entry-stays : {number : ℕ} {words : List ℤ} {before after : List (List ℤ)} → HasGrown before after
    → IsEntry number words before → IsEntry number words after
entry-stays {number = number} {words = words} (more, e) entry =
    subst (IsEntry number words) (sym e) (entry-longer more entry)

-- Lists of a ledger grow

with-grown : (one : Option (List ℤ)) (all : List (List ℤ)) → HasGrown all (cons_option one all)
with-grown None all = grown-none all
with-grown (Some words) all = grown-one words all

picked-grown : (f : Deed → Option (List ℤ)) (number : ℕ) (deed : Deed) (all : ℕ → List Deed) (other : ℕ)
    → HasGrown (filter_map f (all other)) (filter_map f (changed_at number (deed ∷ all number) all other))
picked-grown f number deed all other = elim (eqb_tells number other) [
  | inl t ↦ rw t.0 (subst (λ k. HasGrown (filter_map f (all k)) (cons_option (f deed) (filter_map f (all number)))) t.1
      (with-grown (f deed) (filter_map f (all number))))
  | inr t ↦ rw t.0 (grown-none (filter_map f (all other)))
]

pub requests-grown : (number : ℕ) (deed : Deed) (ledger : Ledger) (one : Who)
    → HasGrown (requests_of ledger one) (requests_of (with_deed number deed ledger) one)
requests-grown number deed ledger (who.File process file) = picked-grown (ask_on file) number deed ledger.deeds process
requests-grown number deed ledger (who.Terminal terminal) = grown-none (ledger.entered terminal)

pub answered-grown : (number : ℕ) (deed : Deed) (ledger : Ledger) (opener : Opener)
    → HasGrown (answered_of ledger opener) (answered_of (with_deed number deed ledger) opener)
answered-grown number deed ledger opener = picked-grown (answer_to opener.place) number deed ledger.deeds opener.server

pub entered-grown : (terminal : ℕ) (words : List ℤ) (ledger : Ledger) (one : Who)
    → HasGrown (requests_of ledger one) (requests_of (with_entered terminal words ledger) one)
entered-grown terminal words ledger (who.File process file) = grown-none (requests_of ledger (who.File process file))
entered-grown terminal words ledger (who.Terminal other) = elim (eqb_tells terminal other) [
  | inl t ↦ rw t.0 (subst (λ k. HasGrown (ledger.entered k) (words ∷ ledger.entered terminal)) t.1
      (grown-one words (ledger.entered terminal)))
  | inr t ↦ rw t.0 (grown-none (ledger.entered other))
]

-- Slots

many : {xs ys : List (List ℤ)} → xs ≡ ys → length xs ≡ length ys
many e = ap (length {A = List ℤ}) e

newest : {number : ℕ} {words first : List ℤ} {older all : List (List ℤ)} → all ≡ first ∷ older
    → number ≡ length older + 1 → IsEntry number words all → words ≡ first
newest {number = number} {words = words} is e entry = entry-one (subst (IsEntry number words) is entry) (is_newest e)

pub waits-next : {a t n r : List (List ℤ)} {slot : Slot} {words : List ℤ} → IsSlot a t n r slot
    → IsEntry (length t + 1) words a → (slot ≡ Waiting words) × (a ≡ words ∷ t)
waits-next (is_empty asked even last) entry = let most = entry-most entry in absurd (omega (arith, many asked, most))
waits-next (is_waiting asked even last) entry =
    let same = newest asked refl entry in (ap Waiting (sym same), rw same asked)
waits-next (is_taken asked even last) entry = let most = entry-most entry in absurd (omega (arith, many asked, most))
waits-next (is_answered asked even last) entry = let most = entry-most entry in absurd (omega (arith, many asked, most))

pub answered-next : {a t n r : List (List ℤ)} {slot : Slot} {words : List ℤ} → IsSlot a t n r slot
    → length a ≡ length r + 1 → IsEntry (length a) words n
    → (slot ≡ Answered words) × (n ≡ words ∷ r)
answered-next (is_empty asked even last) one entry = absurd (omega (arith, many asked, many last, one))
answered-next (is_waiting asked even last) one entry =
    let most = entry-most entry in absurd (omega (arith, many asked, many last, most))
answered-next (is_taken asked even last) one entry =
    let most = entry-most entry in absurd (omega (arith, many asked, many last, most))
answered-next (is_answered asked even last) one entry =
    let same = newest last one entry in (ap Answered (sym same), rw same last)

pub replies-answered : {a t n r : List (List ℤ)} {slot : Slot} → IsSlot a t n r slot → HasGrown r n
replies-answered {r = r} (is_empty asked even last) = ([], last)
replies-answered {r = r} (is_waiting asked even last) = ([], last)
replies-answered {r = r} (is_taken asked even last) = ([], last)
replies-answered {r = r} (is_answered {words = words} asked even last) = (words ∷ [], last)

pub slot-one : {a t n r : List (List ℤ)} {slot other : Slot} → IsSlot a t n r slot → IsSlot a t n r other → slot ≡ other
slot-one (is_empty asked even last) (is_empty x y z) = refl
slot-one (is_empty asked even last) (is_waiting x y z) = absurd (omega (arith, many asked, many x))
slot-one (is_empty asked even last) (is_taken x y z) = absurd (omega (arith, even, y))
slot-one (is_empty asked even last) (is_answered x y z) = absurd (omega (arith, many last, many z))
slot-one (is_waiting asked even last) (is_empty x y z) = absurd (omega (arith, many asked, many x))
slot-one (is_waiting {words = words} asked even last) (is_waiting {words = said} x y z) =
    let same : words ≡ said = cc in ap Waiting same
slot-one (is_waiting asked even last) (is_taken x y z) = absurd (omega (arith, even, y))
slot-one (is_waiting asked even last) (is_answered x y z) = absurd (omega (arith, many last, many z))
slot-one (is_taken asked even last) (is_empty x y z) = absurd (omega (arith, even, y))
slot-one (is_taken asked even last) (is_waiting x y z) = absurd (omega (arith, even, y))
slot-one (is_taken asked even last) (is_taken x y z) = refl
slot-one (is_taken asked even last) (is_answered x y z) = absurd (omega (arith, even, y))
slot-one (is_answered asked even last) (is_empty x y z) = absurd (omega (arith, many last, many z))
slot-one (is_answered asked even last) (is_waiting x y z) = absurd (omega (arith, many last, many z))
slot-one (is_answered asked even last) (is_taken x y z) = absurd (omega (arith, even, y))
slot-one (is_answered {words = words} asked even last) (is_answered {words = said} x y z) =
    let same : words ≡ said = cc in ap Answered same

-- What changed of an opener is read as it is written, and what is read was written so.
use Rattle.std.proofs.Common.{◌≡◌, ◌≤◌, ◌<◌, ◌^◌, ◌+◌, ◌*◌, ◌/◌, ◌%◌, ℕ, ℤ, Bool, true, false, if◌then◌else◌, List}
use Rattle.std.proofs.Common.{◌++◌, length, flat_map, Some, None, nat_le, refl, ap, ap₂, sym, subst, ◌∙◌, arith}
use Rattle.std.proofs.Common.{option_and_then}
use Rattle.std.proofs.lemmas.Bool.{le-leb, leb-true}
use Rattle.std.specs.List.{All}
use Rattle.std.specs.Option.{option_map}
use Rattle.receive_changes.specs.process_semantics.specs.Words.{Front, with_count, long}
use Rattle.receive_changes.specs.checkpoint_image.specs.Reading.{both_in, many_in, pair_in, reply_in}
use Rattle.receive_changes.specs.checkpoint_image.proofs.Messages.{AreFew, reply-reads}
use Rattle.receive_changes.specs.checkpoint_image.proofs.Patterns.{pair-reads}
use Rattle.receive_changes.specs.checkpoint_image.proofs.Readers.{IsReader, WasWritten, both-reads, many-reads}
use Rattle.receive_changes.specs.checkpoint_image.proofs.Readers.{sized-reads}
use Rattle.receive_changes.specs.sync_ids.specs.declared.change.OpenerChange.{OpenerChange}
use Rattle.change_layout.specs.Layout.{change_words, place_and_count, taken_and_added}
use Rattle.change_layout.specs.Reading.{added_in, change_by, change_in}

-- A change

abbrev Parts : Type 0
Parts = ℕ × List (List ℤ)

abbrev ArePartsRead : ℕ → Parts → Type 0
ArePartsRead count parts = (parts.0 < 2 ^ 32) × ((length parts.1 ≡ count) × All (AreFew 16) parts.1)

abbrev parts_in : ℕ → List ℤ → Front Parts
parts_in count = both_in (λ taken added. (taken, added)) pair_in (many_in reply_in count)

abbrev parts_words : Parts → List ℤ
parts_words parts = long parts.0 ++ flat_map with_count parts.1

parts-reads : (count : ℕ) → IsReader parts_words (ArePartsRead count) (parts_in count)
parts-reads count =
    both-reads pair-reads (many-reads reply-reads count) (λ taken added. (taken, added)) (λ parts. parts.0)
    (λ parts. parts.1) (λ parts. refl) (λ taken added. refl) (λ taken added. refl)

abbrev change_of : ℕ → Parts → OpenerChange
change_of opener parts = record { opener = opener; taken = parts.0; added = parts.1 }

abbrev at_place : ℕ → Front Parts → Front OpenerChange
at_place opener found = option_map (λ (parts, rest). (change_of opener parts, rest)) found

added-by : (opener count : ℕ) (words : List ℤ) → added_in opener count words ≡ at_place opener (parts_in count words)
added-by opener count words = by (pair_in words)
  where
    more : (taken : ℕ) (f : Front (List (List ℤ)))
        → option_map (λ (added, rest). (change_of opener (taken, added), rest)) f
        ≡ at_place opener (option_map (λ (added, rest). ((taken, added), rest)) f)
    more taken None = refl
    more taken (Some (added, rest)) = refl

    by : (f : Front ℕ)
        → option_and_then (λ (taken, left).
        option_map (λ (added, rest). (change_of opener (taken, added), rest)) (many_in reply_in count left)) f
        ≡ at_place opener (option_and_then (λ (taken, left).
        option_map (λ (added, rest). ((taken, added), rest)) (many_in reply_in count left)) f)
    by None = refl
    by (Some (taken, left)) = more taken (many_in reply_in count left)

abbrev pub IsChangeRead : OpenerChange → Type 0
IsChangeRead change = (length change.added ≤ 4) × ((change.taken < 2 ^ 32) × All (AreFew 16) change.added)

abbrev IsOf : ℕ → OpenerChange → Type 0
IsOf n change = (place_and_count change ≡ n) × IsChangeRead change

change-again : (n : ℕ) (change : OpenerChange) (left : List ℤ) → IsOf n change
    → change_by n (taken_and_added change ++ left) ≡ Some (change, left)
change-again n change left is =
    let words : List ℤ = taken_and_added change ++ left in
    let both : change.opener * 8 + length change.added ≡ n = is.0 in
    let few : length change.added ≤ 4 = is.1.0 in
    let count : n % 8 ≡ length change.added = omega (arith, both, few) in
    let place : n / 8 ≡ change.opener = omega (arith, both, few) in
    let small : n % 8 ≤ 4 = omega (arith, count, few) in
    ap (λ (b : Bool). if b then added_in (n / 8) (n % 8) words else None) (le-leb (n % 8) 4 small)
    ∙ ap₂ (λ (o k : ℕ). added_in o k words) place count ∙ added-by change.opener (length change.added) words
    ∙ ap (at_place change.opener)
    ((parts-reads (length change.added)).again (change.taken, change.added) left (is.1.1.0, (refl, is.1.1.1)))

change-exact : (n : ℕ) (words : List ℤ) → WasWritten taken_and_added (IsOf n) words (change_by n words)
change-exact n words = tested (nat_le (n % 8) 4) refl
  where
    of_parts : n % 8 ≤ 4 → (f : Front Parts) → WasWritten parts_words (ArePartsRead (n % 8)) words f
        → WasWritten taken_and_added (IsOf n) words (at_place (n / 8) f)
    of_parts small None was = tt
    of_parts small (Some (parts, rest)) was =
        let count : length parts.1 ≡ n % 8 = was.1.1.0 in
        (was.0, (omega (arith, count), (omega (arith, count, small), (was.1.0, was.1.1.1))))

    tested : (b : Bool) → nat_le (n % 8) 4 ≡ b
        → WasWritten taken_and_added (IsOf n) words (if b then added_in (n / 8) (n % 8) words else None)
    tested true is =
        subst (WasWritten taken_and_added (IsOf n) words) (sym (added-by (n / 8) (n % 8) words))
        (of_parts (leb-true (n % 8) 4 is) (parts_in (n % 8) words) ((parts-reads (n % 8)).exact words))
    tested false is = tt

pub change-reads : IsReader change_words (λ change. (place_and_count change ≤ 32767) × IsChangeRead change) change_in
change-reads =
    sized-reads taken_and_added IsChangeRead place_and_count change_by 32767
    (λ n. record { again = change-again n; exact = change-exact n })

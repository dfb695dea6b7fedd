-- A change fits where each of its openers does; and what changes leave at a place.
use Rattle.std.proofs.Common.{◌≡◌, ℕ, zero, suc, ◌+◌, ◌<◌, ◌≤◌, ◌==◌, ◌&&◌, Bool, true, false, if◌then◌else◌, List, []}
use Rattle.std.proofs.Common.{◌∷◌, length, Option, Some, None, refl, ap, ap₂, sym, ◌∙◌, arith, slice_get, slice_set}
use Rattle.std.proofs.Common.{◌++◌}
use Rattle.std.specs.Prelude.{nat_le, nat_lt}
use Rattle.std.specs.Cmp.Derive.{both_true}
use Rattle.std.proofs.lemmas.Bool.{eqb-true, eqb-false, leb-true, le-leb}
use Rattle.checkpoint_image.specs.declared.receive.OpenerBlock.{OpenerBlock}
use Rattle.sync_ids.specs.Changes.{add_few, adds_few, fits_change, put_at, put_in, with_change, with_changes}
use Rattle.sync_ids.specs.Changing.{all_fit, can_hold_after, fits_at, is_unanswered_after, unanswered_at}
use Rattle.sync_ids.specs.Tables.{Remembered, are_of_depths, can_hold, is_of_depth, is_unanswered}
use Rattle.sync_ids.specs.declared.change.OpenerChange.{OpenerChange}
use Rattle.sync_ids.specs.declared.change.ReceiveChange.{ReceiveChange}
use Rattle.sync_ids.proofs.Lists.{get-set_same, get-set_other, last-length}
use Rattle.sync_ids.proofs.Tables.{and-left, and-right, depth-at, depths-set}

-- One change

-- it leaves the blocks of other openers
other-stays : (depths : List ℕ) (blocks : List OpenerBlock) (place : ℕ) (change : OpenerChange)
    → (change.opener ≡ place → ⊥)
    → slice_get (with_change depths blocks change) place ≡ slice_get blocks place
other-stays depths blocks place change apart =
    by (slice_get depths change.opener) (slice_get blocks change.opener)
  where
    by : (d : Option ℕ) (b : Option OpenerBlock)
        → slice_get (put_at d b change blocks) place ≡ slice_get blocks place
    by None b = refl
    by (Some depth) None = refl
    by (Some depth) (Some block) = get-set_other blocks change.opener place (put_in depth block change) apart

-- the block that it leaves of its opener
own-put : (depths : List ℕ) (blocks : List OpenerBlock) (change : OpenerChange) (depth : ℕ) (block : OpenerBlock)
    → slice_get depths change.opener ≡ Some depth → slice_get blocks change.opener ≡ Some block
    → slice_get (with_change depths blocks change) change.opener ≡ Some (put_in depth block change)
own-put depths blocks change depth block of at =
    ap₂ (λ (d : Option ℕ) (b : Option OpenerBlock). slice_get (put_at d b change blocks) change.opener) of at
    ∙ get-set_same blocks change.opener block (put_in depth block change) at

whole-put : (depths : List ℕ) (blocks : List OpenerBlock) (change : OpenerChange) (depth : ℕ) (block : OpenerBlock)
    → slice_get depths change.opener ≡ Some depth → slice_get blocks change.opener ≡ Some block
    → with_change depths blocks change ≡ slice_set blocks change.opener (put_in depth block change)
whole-put depths blocks change depth block of at =
    ap₂ (λ (d : Option ℕ) (b : Option OpenerBlock). put_at d b change blocks) of at

-- Changes of rising openers

rising-tail : (depths : List ℕ) (least : ℕ) (change : OpenerChange) (changes : List OpenerChange)
    → add_few depths least (change ∷ changes) ≡ true
    → (least ≤ change.opener) × (add_few depths (change.opener + 1) changes ≡ true)
rising-tail depths least change changes few =
    let rest = adds_few (slice_get depths change.opener) change && add_few depths (change.opener + 1) changes in (
      leb-true least change.opener (and-left (nat_le least change.opener) rest few),
      and-right (adds_few (slice_get depths change.opener) change) (add_few depths (change.opener + 1) changes)
          (and-right (nat_le least change.opener) rest few),
    )

below-stays : (depths : List ℕ) (blocks : List OpenerBlock) (least place : ℕ) (changes : List OpenerChange)
    → add_few depths least changes ≡ true → place < least
    → slice_get (with_changes depths blocks changes) place ≡ slice_get blocks place
below-stays depths blocks least place [] few below = refl
below-stays depths blocks least place (change ∷ changes) few below =
    let rising = rising-tail depths least change changes few in
    below-stays depths (with_change depths blocks change) (change.opener + 1) place changes rising.1
    (omega (arith, rising.0, below))
    ∙ other-stays depths blocks place change (λ same. omega (arith, rising.0, below, same))

-- whether changes fit is told by the blocks at and after the least place
fit-same : (depths : List ℕ) (one other : List OpenerBlock) (least : ℕ) (changes : List OpenerChange)
    → ((place : ℕ) → least ≤ place → slice_get one place ≡ slice_get other place)
    → all_fit depths one least changes ≡ all_fit depths other least changes
fit-same depths one other least [] same = refl
fit-same depths one other least (change ∷ changes) same =
    by (nat_le least change.opener) refl (λ low. fit-same depths one other (change.opener + 1) changes (λ place above.
    same place (omega (arith, low, above))))
  where
    by : (b : Bool) → nat_le least change.opener ≡ b
        → (least ≤ change.opener
        → all_fit depths one (change.opener + 1) changes ≡ all_fit depths other (change.opener + 1) changes)
        → (b && (fits_at (slice_get depths change.opener) (slice_get one change.opener) change
        && all_fit depths one (change.opener + 1) changes))
        ≡ (b && (fits_at (slice_get depths change.opener) (slice_get other change.opener) change
        && all_fit depths other (change.opener + 1) changes))
    by false is later = refl
    by true is later =
        let low : least ≤ change.opener = leb-true least change.opener is in
        ap₂ (λ (b : Option OpenerBlock) (rest : Bool). fits_at (slice_get depths change.opener) b change && rest)
        (same change.opener low) (later low)

-- there is a block for each depth
block-there : (blocks : List OpenerBlock) (depths : List ℕ) (place depth : ℕ) → are_of_depths blocks depths ≡ true
    → slice_get depths place ≡ Some depth → slice_get blocks place ≡ None → ⊥
block-there [] [] place depth are of none = absurd (cc)
block-there [] (d ∷ depths) place depth are of none = absurd (cc)
block-there (b ∷ blocks) [] place depth are of none = absurd (cc)
block-there (b ∷ blocks) (d ∷ depths) zero depth are of none = absurd (cc)
block-there (b ∷ blocks) (d ∷ depths) (suc place) depth are of none =
    block-there blocks depths place depth (and-right (is_of_depth b d) (are_of_depths blocks depths) are) of none

depth-there : (blocks : List OpenerBlock) (depths : List ℕ) (place : ℕ) (block : OpenerBlock)
    → are_of_depths blocks depths ≡ true
    → slice_get depths place ≡ None → slice_get blocks place ≡ Some block → ⊥
depth-there [] depths place block are none at = absurd (cc)
depth-there (b ∷ blocks) [] place block are none at = absurd (cc)
depth-there (b ∷ blocks) (d ∷ depths) zero block are none at = absurd (cc)
depth-there (b ∷ blocks) (d ∷ depths) (suc place) block are none at =
    depth-there blocks depths place block (and-right (is_of_depth b d) (are_of_depths blocks depths) are) none at

-- where an opener's change can't be put into its block, the table that comes of it is none of these depths
none-of-depths : (depths : List ℕ) (blocks : List OpenerBlock) (change : OpenerChange) (changes : List OpenerChange)
    (depth : ℕ) (block : OpenerBlock)
    → slice_get depths change.opener ≡ Some depth → slice_get blocks change.opener ≡ Some block
    → nat_le (length (put_in depth block change).kept) change.taken ≡ false
    → add_few depths (change.opener + 1) changes ≡ true
    → are_of_depths (with_changes depths (with_change depths blocks change) changes) depths ≡ false
none-of-depths depths blocks change changes depth block of at more few =
    by (are_of_depths (with_changes depths (with_change depths blocks change) changes) depths) refl
  where
    by : (b : Bool) → are_of_depths (with_changes depths (with_change depths blocks change) changes) depths ≡ b
        → b ≡ false
    by false are = refl
    by true are =
        let there = below-stays depths (with_change depths blocks change) (change.opener + 1) change.opener changes few
        (omega arith) ∙ own-put depths blocks change depth block of at in
        let fine = and-right (nat_le (length (put_in depth block change).kept) depth)
        (nat_le (length (put_in depth block change).kept) change.taken)
        (depth-at (with_changes depths (with_change depths blocks change) changes) depths change.opener
        (put_in depth block change) depth are there of) in
        sym fine ∙ more

put-of-depths : (depths : List ℕ) (blocks : List OpenerBlock) (change : OpenerChange) (depth : ℕ)
    (block : OpenerBlock) → are_of_depths blocks depths ≡ true
    → slice_get depths change.opener ≡ Some depth → slice_get blocks change.opener ≡ Some block
    → nat_le (length (put_in depth block change).kept) change.taken ≡ true
    → are_of_depths (with_change depths blocks change) depths ≡ true
put-of-depths depths blocks change depth block are of at few =
    ap (λ (bs : List OpenerBlock). are_of_depths bs depths) (whole-put depths blocks change depth block of at)
    ∙ depths-set blocks depths change.opener (put_in depth block change) depth are of
    (both_true (le-leb (length (put_in depth block change).kept) depth
    (last-length depth (block.kept ++ change.added))) few)

-- if it is so of the changes after one, in the blocks after that one, it is so of all
fit-step : (depths : List ℕ) (blocks : List OpenerBlock) (least : ℕ) (change : OpenerChange)
    (changes : List OpenerChange) → are_of_depths blocks depths ≡ true
    → (are_of_depths (with_change depths blocks change) depths ≡ true
    → all_fit depths (with_change depths blocks change) (change.opener + 1) changes
    ≡ (add_few depths (change.opener + 1) changes
    && are_of_depths (with_changes depths (with_change depths blocks change) changes) depths))
    → all_fit depths blocks least (change ∷ changes)
    ≡ (add_few depths least (change ∷ changes)
    && are_of_depths (with_changes depths blocks (change ∷ changes)) depths)
fit-step depths blocks least change changes are again =
    by (nat_le least change.opener) (slice_get depths change.opener) refl (slice_get blocks change.opener) refl
  where
    rest : Bool
    rest = are_of_depths (with_changes depths (with_change depths blocks change) changes) depths

    fitting : (depth : ℕ) → slice_get depths change.opener ≡ Some depth → (block : OpenerBlock)
        → slice_get blocks change.opener ≡ Some block → (few : Bool)
        → nat_le (length (put_in depth block change).kept) change.taken ≡ few
        → (few && all_fit depths blocks (change.opener + 1) changes)
        ≡ (add_few depths (change.opener + 1) changes && rest)
    fitting depth of block at true few =
        fit-same depths blocks (with_change depths blocks change) (change.opener + 1) changes
        (λ place above. sym (other-stays depths blocks place change (λ same. omega (arith, above, same))))
        ∙ again (put-of-depths depths blocks change depth block are of at few)
    fitting depth of block at false more = later (add_few depths (change.opener + 1) changes) refl
      where
        later : (b : Bool) → add_few depths (change.opener + 1) changes ≡ b → false ≡ (b && rest)
        later false few = refl
        later true few = sym (none-of-depths depths blocks change changes depth block of at more few)

    adding : (depth : ℕ) → slice_get depths change.opener ≡ Some depth → (block : OpenerBlock)
        → slice_get blocks change.opener ≡ Some block → (few : Bool)
        → ((few && nat_le (length (put_in depth block change).kept) change.taken)
        && all_fit depths blocks (change.opener + 1) changes)
        ≡ ((few && add_few depths (change.opener + 1) changes) && rest)
    adding depth of block at false = refl
    adding depth of block at true =
        fitting depth of block at (nat_le (length (put_in depth block change).kept) change.taken) refl

    by : (low : Bool) (d : Option ℕ) → slice_get depths change.opener ≡ d → (b : Option OpenerBlock)
        → slice_get blocks change.opener ≡ b
        → (low && (fits_at d b change && all_fit depths blocks (change.opener + 1) changes))
        ≡ ((low && (adds_few d change && add_few depths (change.opener + 1) changes)) && rest)
    by false d of b at = refl
    by true None of b at = refl
    by true (Some depth) of None at = absurd (block-there blocks depths change.opener depth are of at)
    by true (Some depth) of (Some block) at = adding depth of block at (nat_le (length change.added) depth)

pub fit-is : (depths : List ℕ) (blocks : List OpenerBlock) (least : ℕ) (changes : List OpenerChange)
    → are_of_depths blocks depths ≡ true
    → all_fit depths blocks least changes
    ≡ (add_few depths least changes && are_of_depths (with_changes depths blocks changes) depths)
fit-is depths blocks least [] are = sym are
fit-is depths blocks least (change ∷ changes) are =
    fit-step depths blocks least change changes are
    (λ next. fit-is depths (with_change depths blocks change) (change.opener + 1) changes next)

-- What is in hand

-- where no block is, none comes
none-stays : (depths : List ℕ) (blocks : List OpenerBlock) (place : ℕ) (changes : List OpenerChange)
    → slice_get blocks place ≡ None → slice_get (with_changes depths blocks changes) place ≡ None
none-stays depths blocks place [] at = at
none-stays depths blocks place (change ∷ changes) at =
    none-stays depths (with_change depths blocks change) place changes
    (by (change.opener == place) refl)
  where
    by : (b : Bool) → (change.opener == place) ≡ b
        → slice_get (with_change depths blocks change) place ≡ None
    by true is =
        let same : change.opener ≡ place = eqb-true change.opener place is in
        let none : slice_get blocks change.opener ≡ None = ap (slice_get blocks) same ∙ at in
        ap (λ (bs : List OpenerBlock). slice_get bs place)
        (ap (λ (b : Option OpenerBlock). put_at (slice_get depths change.opener) b change blocks) none
        ∙ put-none (slice_get depths change.opener)) ∙ at
      where
        put-none : (d : Option ℕ) → put_at d None change blocks ≡ blocks
        put-none None = refl
        put-none (Some depth) = refl
    by false is = other-stays depths blocks place change (eqb-false change.opener place is) ∙ at

some-held : (depths : List ℕ) (blocks : List OpenerBlock) (least place : ℕ) (changes : List OpenerChange) (depth : ℕ)
    (block : OpenerBlock)
    → slice_get depths place ≡ Some depth → slice_get blocks place ≡ Some block → add_few depths least changes ≡ true
    → is_unanswered (slice_get (with_changes depths blocks changes) place)
    ≡ is_unanswered_after depth block place changes
some-held depths blocks least place [] depth block of at few = ap is_unanswered at
some-held depths blocks least place (change ∷ changes) depth block of at few =
    by (change.opener == place) refl
    (λ still. some-held depths (with_change depths blocks change) (change.opener + 1) place changes depth block of
    still later)
  where
    later : add_few depths (change.opener + 1) changes ≡ true
    later = (rising-tail depths least change changes few).1

    by : (b : Bool) → (change.opener == place) ≡ b
        → (slice_get (with_change depths blocks change) place ≡ Some block
        → is_unanswered (slice_get (with_changes depths (with_change depths blocks change) changes) place)
        ≡ is_unanswered_after depth block place changes)
        → is_unanswered (slice_get (with_changes depths (with_change depths blocks change) changes) place)
        ≡ (if b then nat_lt (length (put_in depth block change).kept) change.taken
        else is_unanswered_after depth block place changes)
    by true is again =
        let same : change.opener ≡ place = eqb-true change.opener place is in
        ap is_unanswered
        (below-stays depths (with_change depths blocks change) (change.opener + 1) place changes later
        (omega (arith, same))
        ∙ ap (slice_get (with_change depths blocks change)) (sym same)
        ∙ own-put depths blocks change depth block (ap (slice_get depths) same ∙ of)
        (ap (slice_get blocks) same ∙ at))
    by false is again = again (other-stays depths blocks place change (eqb-false change.opener place is) ∙ at)

pub hold-at : (depths : List ℕ) (blocks : List OpenerBlock) (least place : ℕ) (changes : List OpenerChange)
    → are_of_depths blocks depths ≡ true → add_few depths least changes ≡ true
    → is_unanswered (slice_get (with_changes depths blocks changes) place)
    ≡ unanswered_at (slice_get depths place) (slice_get blocks place) place changes
hold-at depths blocks least place changes are few =
    by (slice_get depths place) refl (slice_get blocks place) refl
  where
    by : (d : Option ℕ) → slice_get depths place ≡ d → (b : Option OpenerBlock) → slice_get blocks place ≡ b
        → is_unanswered (slice_get (with_changes depths blocks changes) place) ≡ unanswered_at d b place changes
    by None of None at = ap is_unanswered (none-stays depths blocks place changes at)
    by None of (Some block) at = absurd (depth-there blocks depths place block are of at)
    by (Some depth) of None at = absurd (block-there blocks depths place depth are of at)
    by (Some depth) of (Some block) at = some-held depths blocks least place changes depth block of at few

-- Both

pub change-fits : (r : Remembered) (change : ReceiveChange)
    → are_of_depths r.table.openers r.depths ≡ true
    → (all_fit r.depths r.table.openers 0 change.changes
    && can_hold_after r.depths r.table.openers change.changes change.in_hand)
    ≡ fits_change r change
change-fits r change are = by (add_few r.depths 0 change.changes) refl
  where
    after : List OpenerBlock
    after = with_changes r.depths r.table.openers change.changes

    holding : add_few r.depths 0 change.changes ≡ true → (in_hand : Option ℕ)
        → can_hold_after r.depths r.table.openers change.changes in_hand ≡ can_hold after in_hand
    holding few None = refl
    holding few (Some place) = sym (hold-at r.depths r.table.openers 0 place change.changes are few)

    by : (b : Bool) → add_few r.depths 0 change.changes ≡ b
        → (all_fit r.depths r.table.openers 0 change.changes
        && can_hold_after r.depths r.table.openers change.changes change.in_hand)
        ≡ (b && (are_of_depths after r.depths && can_hold after change.in_hand))
    by true few =
        ap₂ (λ (a b : Bool). a && b)
        (fit-is r.depths r.table.openers 0 change.changes are
        ∙ ap (λ (b : Bool). b && are_of_depths after r.depths) few)
        (holding few change.in_hand)
    by false few =
        ap (λ (a : Bool). a && can_hold_after r.depths r.table.openers change.changes change.in_hand)
        (fit-is r.depths r.table.openers 0 change.changes are
        ∙ ap (λ (b : Bool). b && are_of_depths after r.depths) few)

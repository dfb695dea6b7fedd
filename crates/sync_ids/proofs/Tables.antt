-- Tables of which one opener's block changes, and what a table that fits says of one opener.
use Rattle.std.proofs.Common.{◌≡◌, ◌≢◌, ℕ, ◌+◌, ◌-◌, ◌<◌, ◌&&◌, ◌==◌, ℤ, Bool, true, false, List, [], ◌∷◌, ◌++◌, length}
use Rattle.std.proofs.Common.{map, Some, zero, suc, refl, ap, ◌∙◌, arith, slice_get, slice_set, length-append}
use Rattle.std.proofs.Common.{length-drop}
use Rattle.std.specs.Prelude.{nat_le}
use Rattle.std.specs.Cmp.Derive.{both_true}
use Rattle.std.proofs.lemmas.Bool.{eqb-true, leb-true, le-leb}
use Rattle.checkpoint_image.specs.Receive.{last_ones}
use Rattle.checkpoint_image.specs.declared.receive.OpenerBlock.{OpenerBlock}
use Rattle.sync_ids.specs.Tables.{untaken, is_of_depth, are_of_depths}

pub and-left : (a b : Bool) → a && b ≡ true → a ≡ true
and-left true b both = refl
and-left false b both = both

pub and-right : (a b : Bool) → a && b ≡ true → b ≡ true
and-right true b both = both
and-right false b both = cc

-- where the blocks are of their depths, so is each
pub depth-at : (blocks : List OpenerBlock) (depths : List ℕ) (place : ℕ) (block : OpenerBlock) (depth : ℕ)
    → are_of_depths blocks depths ≡ true → slice_get blocks place ≡ Some block → slice_get depths place ≡ Some depth
    → is_of_depth block depth ≡ true
depth-at [] depths place block depth are at of = cc
depth-at (b ∷ blocks) [] place block depth are at of = cc
depth-at (b ∷ blocks) (d ∷ depths) zero block depth are at of =
    let first = and-left (is_of_depth b d) (are_of_depths blocks depths) are in cc
depth-at (b ∷ blocks) (d ∷ depths) (suc place) block depth are at of =
    depth-at blocks depths place block depth (and-right (is_of_depth b d) (are_of_depths blocks depths) are) at of

-- where one block is put that is of its depth, the blocks stay of their depths
pub depths-set : (blocks : List OpenerBlock) (depths : List ℕ) (place : ℕ) (block : OpenerBlock) (depth : ℕ)
    → are_of_depths blocks depths ≡ true → slice_get depths place ≡ Some depth → is_of_depth block depth ≡ true
    → are_of_depths (slice_set blocks place block) depths ≡ true
depths-set [] depths place block depth are at of = are
depths-set (b ∷ blocks) [] place block depth are at of = cc
depths-set (b ∷ blocks) (d ∷ depths) zero block depth are at of =
    let same : d ≡ depth = cc in
    both_true (ap (is_of_depth block) same ∙ of) (and-right (is_of_depth b d) (are_of_depths blocks depths) are)
depths-set (b ∷ blocks) (d ∷ depths) (suc place) block depth are at of =
    both_true (and-left (is_of_depth b d) (are_of_depths blocks depths) are)
    (depths-set blocks depths place block depth (and-right (is_of_depth b d) (are_of_depths blocks depths) are) at of)

pub lengths : (blocks : List OpenerBlock) (depths : List ℕ) → are_of_depths blocks depths ≡ true
    → length blocks ≡ length depths
lengths [] [] are = refl
lengths [] (d ∷ depths) are = cc
lengths (b ∷ blocks) [] are = cc
lengths (b ∷ blocks) (d ∷ depths) are =
    ap suc (lengths blocks depths (and-right (is_of_depth b d) (are_of_depths blocks depths) are))

pub no-eqb : (a b : ℕ) → a ≢ b → (a == b) ≡ false
no-eqb a b apart =
    elim (a == b) as (λ t. (a == b) ≡ t → t ≡ false)
    [ true ↦ λ same. absurd (apart (eqb-true a b same)) | false ↦ λ _. refl ] refl

-- as many blocks as depths are needed
pub unequal : (blocks : List OpenerBlock) (depths : List ℕ) → length blocks ≢ length depths
    → are_of_depths blocks depths ≡ false
unequal blocks depths apart =
    elim (are_of_depths blocks depths) as (λ b. are_of_depths blocks depths ≡ b → b ≡ false)
    [ true ↦ λ are. absurd (apart (lengths blocks depths are)) | false ↦ λ are. refl ] refl

-- nothing taken is of each depth
pub untaken-of : (depths : List ℕ) → are_of_depths (map (λ _. untaken) depths) depths ≡ true
untaken-of [] = refl
untaken-of (depth ∷ depths) = both_true (both_true (le-leb 0 depth (omega arith)) refl) (untaken-of depths)

-- one more taken
pub more-taken : (kept depth taken : ℕ) → (nat_le kept depth && nat_le kept taken) ≡ true
    → (nat_le kept depth && nat_le kept (taken + 1)) ≡ true
more-taken kept depth taken of =
    both_true (and-left (nat_le kept depth) (nat_le kept taken) of)
    (le-leb kept (taken + 1) (omega (
      arith,
      leb-true kept taken (and-right (nat_le kept depth) (nat_le kept taken) of),
    )))

-- one more kept
pub one-more-kept : (kept : List (List ℤ)) (words : List ℤ) (depth taken : ℕ) → length kept < taken
    → (nat_le (length (last_ones depth (kept ++ words ∷ []))) depth
    && nat_le (length (last_ones depth (kept ++ words ∷ []))) taken) ≡ true
one-more-kept kept words depth taken fewer =
    let all = length-append kept (words ∷ []) in
    let left = length-drop (length (kept ++ words ∷ []) - depth) (kept ++ words ∷ []) in
    both_true (le-leb _ depth (omega (arith, all, left))) (le-leb _ taken (omega (arith, all, left, fewer)))

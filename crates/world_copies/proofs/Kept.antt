-- The replies that a receive table keeps have numbers, from the first that it keeps to the one last answered.
use Rattle.std.proofs.Common.{◌≡◌, ℕ, zero, suc, ◌<◌, ◌≤◌, ◌==◌, ◌&&◌, Bool, true, false, true≢false, List, [], ◌∷◌}
use Rattle.std.proofs.Common.{length, slice_get, Option, Some, None, is_some, nat_le, leb-true, ltb-true, eqb-true}
use Rattle.std.proofs.Common.{refl, ap, sym, subst, ◌∙◌, arith}
use Rattle.world_semantics.specs.checkpoint_image.specs.declared.receive.OpenerBlock.{OpenerBlock}
use Rattle.world_semantics.specs.checkpoint_image.specs.declared.receive.ReceiveBlock.{ReceiveBlock}
use Rattle.world_semantics.specs.checkpoint_image.specs.Receive.{answered, holds, is_place}
use Rattle.process_copies.specs.sync_ids.specs.Tables.{are_of_depths, can_hold, is_of_depth, is_unanswered}
use Rattle.world_copies.specs.Again.{IsKeptTable}

and_left : (a b : Bool) → (a && b) ≡ true → a ≡ true
and_left true b both = refl
and_left false b both = both

and_right : (a b : Bool) → (a && b) ≡ true → b ≡ true
and_right true b both = both
and_right false b both = absurd (true≢false (sym both))

abbrev block_in : OpenerBlock → Option OpenerBlock → OpenerBlock
block_in first None = first
block_in first (Some block) = block

at_depth : (blocks : List OpenerBlock) (depths : List ℕ) (place : ℕ) (block : OpenerBlock)
    → are_of_depths blocks depths ≡ true → slice_get blocks place ≡ Some block
    → (place < length depths) × (length block.kept ≤ block.taken)
at_depth [] depths place block fits there = absurd (true≢false (sym (ap is_some there)))
at_depth (first ∷ blocks) [] place block fits there = absurd (true≢false (sym fits))
at_depth (first ∷ blocks) (depth ∷ depths) zero block fits there =
    let within = and_left (is_of_depth first depth) (are_of_depths blocks depths) fits in
    let few = and_right (nat_le (length first.kept) depth) (nat_le (length first.kept) first.taken) within in (
      omega arith,
      subst (λ (b : OpenerBlock). length b.kept ≤ b.taken) (ap (λ o. block_in first o) there)
          (leb-true (length first.kept) first.taken few),
    )
at_depth (first ∷ blocks) (depth ∷ depths) (suc place) block fits there =
    let further = at_depth blocks depths place block
    (and_right (is_of_depth first depth) (are_of_depths blocks depths) fits) there in
    (omega (arith, further.0), further.1)

held_by : (b : Bool) (openers : List OpenerBlock) (held place : ℕ) (block : OpenerBlock) → (held == place) ≡ b
    → is_unanswered (slice_get openers held) ≡ true
    → slice_get openers place ≡ Some block → length block.kept ≤ block.taken → length block.kept ≤ answered b block
held_by true openers held place block same waits there few =
    let here = ap (λ k. is_unanswered (slice_get openers k)) (eqb-true held place same) ∙ ap is_unanswered there in
    let fewer = ltb-true (length block.kept) block.taken (sym here ∙ waits) in
    omega (arith, fewer)
held_by false openers held place block same waits there few = few

hold : (openers : List OpenerBlock) (in_hand : Option ℕ) (place : ℕ) (block : OpenerBlock)
    → can_hold openers in_hand ≡ true
    → slice_get openers place ≡ Some block → length block.kept ≤ block.taken
    → length block.kept ≤ answered (is_place in_hand place) block
hold openers None place block can there few = few
hold openers (Some held) place block can there few = held_by (held == place) openers held place block refl can there few

pub place-fits : (table : ReceiveBlock) (place : ℕ) (block : OpenerBlock) → IsKeptTable table
    → slice_get table.openers place ≡ Some block → place < 65536
place-fits table place block kept there =
    let fits = and_left (are_of_depths table.openers kept.0) (can_hold table.openers table.in_hand) kept.1.table in
    omega (arith, (at_depth table.openers kept.0 place block fits there).0, kept.1.few)

pub kept-few : (table : ReceiveBlock) (place : ℕ) (block : OpenerBlock) → IsKeptTable table
    → slice_get table.openers place ≡ Some block
    → length block.kept ≤ answered (holds table place) block
kept-few table place block kept there =
    let fits = and_left (are_of_depths table.openers kept.0) (can_hold table.openers table.in_hand) kept.1.table in
    let can = and_right (are_of_depths table.openers kept.0) (can_hold table.openers table.in_hand) kept.1.table in
    hold table.openers table.in_hand place block can there (at_depth table.openers kept.0 place block fits there).1

-- Openers of which one changes, and what is remembered then.
use Rattle.std.proofs.Common.{◌≡◌, ℕ, ◌+◌, ◌<◌, ◌≤◌, ℤ, true, List, [], ◌∷◌, ◌++◌, length, map, take, get_or}
use Rattle.std.proofs.Common.{All, Option, Some, None, zero, suc, refl, ap, ap₂, sym, subst, ◌∙◌, arith, slice_get}
use Rattle.std.proofs.Common.{slice_set, option_map, unwrap_or}
use Rattle.std.specs.Prelude.{nat_le}
use Rattle.std.specs.Cmp.Derive.{both_true}
use Rattle.std.proofs.lemmas.Bool.{leb-true, ltb-true, lt-ltb}
use Rattle.std.proofs.lemmas.List.{length-map, map-append, map-set, take_more, take_more_set}
use Rattle.std.proofs.lemmas.List.Elements.{All-map}
use Rattle.std.proofs.lemmas.Option.{slice_get-map, slice_get_read, get_or_from_slice_get}
use Rattle.std.proofs.Math.Seq.{map-set_same}
use Rattle.checkpoint_image.specs.Receive.{last_ones, after_taking, after_answering}
use Rattle.checkpoint_image.specs.declared.receive.OpenerBlock.{OpenerBlock}
use Rattle.checkpoint_image.specs.tal_tree.specs.declared.site.OpenerSpec.{OpenerSpec}
use Rattle.sync_ids.specs.declared.opener.Opener.{Opener}
use Rattle.sync_ids.specs.Openers.{block_of, depth_of, untaken_of, remembered}
use Rattle.sync_ids.specs.Tables.{IsDepth, Remembered, IsSound, untaken, nothing_taken, is_of_depth, are_of_depths}
use Rattle.sync_ids.specs.Tables.{is_unanswered, can_hold}
use Rattle.sync_ids.proofs.Tables.{and-left, and-right, depth-at, depths-set, lengths, untaken-of, more-taken}
use Rattle.sync_ids.proofs.Tables.{one-more-kept}

-- One opener changes

pub depths-same : (openers : List Opener) (place : ℕ) (old new : Opener) → slice_get openers place ≡ Some old
    → depth_of new ≡ depth_of old
    → map depth_of (slice_set openers place new) ≡ map depth_of openers
depths-same openers place old new at same =
    map-set_same depth_of openers place new old
    (same ∙ ap depth_of (sym (get_or_from_slice_get openers place old old at)))

pub part-at : {A : Type 0} (part : Opener → A) (openers : List Opener) (place : ℕ) (old : Opener)
    → slice_get openers place ≡ Some old
    → slice_get (map part openers) place ≡ Some (part old)
part-at part openers place old at = slice_get-map part openers place ∙ ap (option_map part) at

-- what is remembered stays sound where one opener's block changes to one of its depth, and it can hold what is in hand
-- then
pub sound-set : (openers : List Opener) (before after : Option ℕ) (place : ℕ) (old new : Opener)
    → slice_get openers place ≡ Some old → depth_of new ≡ depth_of old
    → is_of_depth (block_of new) (depth_of old) ≡ true
    → can_hold (slice_set (map block_of openers) place (block_of new)) after ≡ true
    → IsSound (remembered openers before) → IsSound (remembered (slice_set openers place new) after)
sound-set openers before after place old new at same of hold sound =
    let depths = depths-same openers place old new at same in
    let blocks = map-set block_of openers place new in
    record {
      few = subst (λ (ds : List ℕ). length ds < 4096) (sym depths) sound.few;
      depths = subst (λ (ds : List ℕ). All IsDepth ds) (sym depths) sound.depths;
      table = both_true
          (ap₂ are_of_depths blocks depths
          ∙ depths-set (map block_of openers) (map depth_of openers) place (block_of new) (depth_of old)
          (and-left (are_of_depths (map block_of openers) (map depth_of openers))
          (can_hold (map block_of openers) before) sound.table)
          (part-at depth_of openers place old at) of)
          (ap (λ bs. can_hold bs after) blocks ∙ hold);
    }

-- each opener's block is of its depth
pub of-depth : (openers : List Opener) (in_hand : Option ℕ) (place : ℕ) (old : Opener)
    → slice_get openers place ≡ Some old
    → IsSound (remembered openers in_hand) → is_of_depth (block_of old) (depth_of old) ≡ true
of-depth openers in_hand place old at sound =
    depth-at (map block_of openers) (map depth_of openers) place (block_of old) (depth_of old)
    (and-left (are_of_depths (map block_of openers) (map depth_of openers)) (can_hold (map block_of openers) in_hand)
    sound.table)
    (part-at block_of openers place old at) (part-at depth_of openers place old at)

set-at : (blocks : List OpenerBlock) (place : ℕ) (old new : OpenerBlock) → slice_get blocks place ≡ Some old
    → slice_get (slice_set blocks place new) place ≡ Some new
set-at [] place old new at = cc
set-at (b ∷ blocks) zero old new at = refl
set-at (b ∷ blocks) (suc place) old new at = set-at blocks place old new at

-- to the request in hand no reply is kept yet
unanswered-at : (openers : List Opener) (place : ℕ) (old : Opener) → slice_get openers place ≡ Some old
    → IsSound (remembered openers (Some place))
    → length old.kept.items < old.taken
unanswered-at openers place old at sound =
    ltb-true (length old.kept.items) old.taken
    (ap is_unanswered (sym (part-at block_of openers place old at))
    ∙ and-right (are_of_depths (map block_of openers) (map depth_of openers))
    (can_hold (map block_of openers) (Some place)) sound.table)

some-there : (blocks : List OpenerBlock) (place : ℕ) → is_unanswered (slice_get blocks place) ≡ true
    → place < length blocks
some-there [] place is = cc
some-there (block ∷ blocks) zero is = omega arith
some-there (block ∷ blocks) (suc place) is = omega (arith, some-there blocks place is)

-- the request in hand is that of an opener
pub there-in : (openers : List Opener) (place : ℕ) → IsSound (remembered openers (Some place)) → place < length openers
there-in openers place sound =
    subst (λ (n : ℕ). place < n) (length-map openers block_of)
    (some-there (map block_of openers) place
    (and-right (are_of_depths (map block_of openers) (map depth_of openers))
    (can_hold (map block_of openers) (Some place)) sound.table))

-- the opener of the request in hand
pub opener-held : (openers : List Opener) (in_hand : Option ℕ) (k place : ℕ) (old : Opener) → in_hand ≡ Some place
    → k ≡ place
    → old ≡ get_or openers k old → IsSound (remembered openers in_hand)
    → (IsSound (remembered openers (Some k))) × (slice_get openers k ≡ Some old)
opener-held openers in_hand k place old is same read sound =
    let held = subst (λ (h : Option ℕ). IsSound (remembered openers h)) (is ∙ ap Some (sym same)) sound in
    (held, slice_get_read openers (length openers) k old refl (there-in openers k held) read)

pub sound-taking : (openers : List Opener) (before : Option ℕ) (place : ℕ) (old new : Opener)
    → slice_get openers place ≡ Some old
    → block_of new ≡ record (block_of old) { taken = old.taken + 1 } → depth_of new ≡ depth_of old
    → IsSound (remembered openers before) → IsSound (remembered (slice_set openers place new) (Some place))
sound-taking openers before place old new at block depth sound =
    let of = of-depth openers before place old at sound in
    let kept = leb-true (length old.kept.items) old.taken
    (and-right (nat_le (length old.kept.items) (depth_of old)) (nat_le (length old.kept.items) old.taken) of) in
    sound-set openers before (Some place) place old new at depth
    (ap (λ (b : OpenerBlock). is_of_depth b (depth_of old)) block
    ∙ more-taken (length old.kept.items) (depth_of old) old.taken of)
    (ap is_unanswered (set-at (map block_of openers) place (block_of old) (block_of new)
    (part-at block_of openers place old at) ∙ ap Some block)
    ∙ lt-ltb (length old.kept.items) (old.taken + 1) (omega (arith, kept)))
    sound

pub sound-answering : (openers : List Opener) (place : ℕ) (old new : Opener) (words : List ℤ)
    → slice_get openers place ≡ Some old
    → block_of new ≡ record (block_of old) { kept = last_ones (depth_of old) (old.kept.items ++ words ∷ []) }
    → depth_of new ≡ depth_of old
    → IsSound (remembered openers (Some place)) → IsSound (remembered (slice_set openers place new) None)
sound-answering openers place old new words at block depth sound =
    let held = unanswered-at openers place old at sound in
    sound-set openers (Some place) None place old new at depth
    (ap (λ (b : OpenerBlock). is_of_depth b (depth_of old)) block
    ∙ one-more-kept old.kept.items words (depth_of old) old.taken held) refl sound

same-block : (openers : List Opener) (place : ℕ) (old : Opener) (block : OpenerBlock)
    → slice_get openers place ≡ Some old
    → slice_get (map block_of openers) place ≡ Some block → block_of old ≡ block
same-block openers place old block at is =
    ap (λ (found : Option OpenerBlock). unwrap_or found block) (sym (part-at block_of openers place old at) ∙ is)

-- the opener at a place of the table
pub opener-at : (openers : List Opener) (in_hand : Option ℕ) (r : Remembered) (k place : ℕ) (old : Opener)
    → remembered openers in_hand ≡ r → k ≡ place
    → place < length r.depths → old ≡ get_or openers k old → slice_get openers k ≡ Some old
opener-at openers in_hand r k place old is same there read =
    let many : length r.depths ≡ length openers =
    ap (λ (s : Remembered). length s.depths) (sym is) ∙ length-map openers depth_of in
    slice_get_read openers (length openers) k old refl (omega (arith, many, same, there)) read

-- what is found in the list of a part is found in that of the openers
found-at : {A : Type 0} (part : Opener → A) (list : Remembered → List A) (openers : List Opener) (in_hand : Option ℕ)
    (r : Remembered) (k place : ℕ) (x : A)
    → remembered openers in_hand ≡ r → list (remembered openers in_hand) ≡ map part openers → k ≡ place
    → slice_get (list r) place ≡ Some x
    → slice_get (map part openers) k ≡ Some x
found-at part list openers in_hand r k place x is as_parts same found =
    ap₂ slice_get (sym as_parts ∙ ap list is) same ∙ found

-- the table after the change of one opener's block
pub table-set : (openers : List Opener) (in_hand : Option ℕ) (place : ℕ) (old new : Opener) (block : OpenerBlock)
    (change : OpenerBlock → OpenerBlock)
    → slice_get openers place ≡ Some old → slice_get (map block_of openers) place ≡ Some block
    → block_of new ≡ change (block_of old)
    → (remembered (slice_set openers place new) in_hand).table
    ≡ record { openers = slice_set (map block_of openers) place (change block); in_hand = in_hand }
table-set openers in_hand place old new block change at is changed =
    ap (λ (blocks : List OpenerBlock). record { openers = blocks; in_hand = in_hand })
    (map-set block_of openers place new
    ∙ ap (λ (b : OpenerBlock). slice_set (map block_of openers) place b)
    (changed ∙ ap change (same-block openers place old block at is)))

pub table-taking : (openers : List Opener) (in_hand : Option ℕ) (r : Remembered) (k place : ℕ) (old new : Opener)
    (block : OpenerBlock)
    → remembered openers in_hand ≡ r → k ≡ place → slice_get openers k ≡ Some old
    → slice_get r.table.openers place ≡ Some block
    → block_of new ≡ record (block_of old) { taken = old.taken + 1 }
    → (remembered (slice_set openers k new) (Some place)).table ≡ after_taking place block r.table
table-taking openers in_hand r k place old new block is same at found changed =
    table-set openers (Some place) k old new block (λ b. record b { taken = b.taken + 1 }) at
    (found-at block_of (λ s. s.table.openers) openers in_hand r k place block is refl same found) changed
    ∙ ap₂ (λ (blocks : List OpenerBlock) (n : ℕ). record
    { openers = slice_set blocks n (record block { taken = block.taken + 1 }); in_hand = Some place })
    (ap (λ (s : Remembered). s.table.openers) is) same

pub table-answering : (openers : List Opener) (in_hand : Option ℕ) (r : Remembered) (k place : ℕ) (old new : Opener)
    (words : List ℤ) (block : OpenerBlock) (depth : ℕ)
    → remembered openers in_hand ≡ r → k ≡ place → slice_get openers k ≡ Some old
    → slice_get r.table.openers place ≡ Some block → slice_get r.depths place ≡ Some depth
    → block_of new ≡ record (block_of old) { kept = last_ones (depth_of old) (old.kept.items ++ words ∷ []) }
    → (remembered (slice_set openers k new) None).table ≡ after_answering depth place block words r.table
table-answering openers in_hand r k place old new words block depth is same at found of changed =
    let change : ℕ → OpenerBlock → OpenerBlock = λ n b. record b { kept = last_ones n (b.kept ++ words ∷ []) } in
    let there : slice_get (map depth_of openers) k ≡ Some depth =
    found-at depth_of (λ s. s.depths) openers in_hand r k place depth is refl same of in
    let depths : depth_of old ≡ depth =
    ap (λ (d : Option ℕ). unwrap_or d depth) (sym (part-at depth_of openers k old at) ∙ there) in
    table-set openers None k old new block (change (depth_of old)) at
    (found-at block_of (λ s. s.table.openers) openers in_hand r k place block is refl same found) changed
    ∙ ap₂ (λ (blocks : List OpenerBlock) (n : ℕ). record
    { openers = slice_set blocks n (change (depth_of old) block); in_hand = None })
    (ap (λ (s : Remembered). s.table.openers) is) same
    ∙ ap (λ (n : ℕ). record { openers = slice_set r.table.openers place (change n block); in_hand = None }) depths

-- The beginning

untaken-blocks : (openers : List OpenerSpec)
    → map block_of (map (λ opener. untaken_of opener.depth) openers)
    ≡ map (λ _. untaken) (map (λ opener. opener.depth) openers)
untaken-blocks [] = refl
untaken-blocks (opener ∷ openers) = ap (λ blocks. untaken ∷ blocks) (untaken-blocks openers)

untaken-depths : (openers : List OpenerSpec)
    → map depth_of (map (λ opener. untaken_of opener.depth) openers) ≡ map (λ opener. opener.depth) openers
untaken-depths [] = refl
untaken-depths (opener ∷ openers) = ap (λ depths. opener.depth ∷ depths) (untaken-depths openers)

pub remembered-untaken : (openers : List OpenerSpec)
    → remembered (map (λ opener. untaken_of opener.depth) openers) None
    ≡ nothing_taken (map (λ opener. opener.depth) openers)
remembered-untaken openers =
    ap₂ (λ blocks depths. record { table = record { openers = blocks; in_hand = None }; depths = depths })
    (untaken-blocks openers) (untaken-depths openers)

pub sound-untaken : (openers : List OpenerSpec) → length openers < 4096 → All (λ opener. IsDepth opener.depth) openers
    → IsSound (nothing_taken (map (λ opener. opener.depth) openers))
sound-untaken openers few depths =
    record {
      few = subst (λ n. n < 4096) (sym (length-map openers (λ opener. opener.depth))) few;
      depths = All-map IsDepth (λ opener. opener.depth) openers depths;
      table = both_true (untaken-of (map (λ opener. opener.depth) openers)) refl;
    }

-- Whole blocks are put

pub room : (openers now : List Opener) (blocks : List OpenerBlock) (k : ℕ) (block : OpenerBlock) (opener : Opener)
    → are_of_depths blocks (map depth_of openers) ≡ true → map depth_of now ≡ map depth_of openers
    → slice_get blocks k ≡ Some block → slice_get now k ≡ Some opener → length block.kept ≤ depth_of opener
room openers now blocks k block opener are same at of =
    let one = depth-at blocks (map depth_of openers) k block (depth_of opener) are at
    (ap (λ (ds : List ℕ). slice_get ds k) (sym same) ∙ part-at depth_of now k opener of) in
    leb-true (length block.kept) (depth_of opener)
    (and-left (nat_le (length block.kept) (depth_of opener)) (nat_le (length block.kept) block.taken) one)

pub as-many : (openers now : List Opener) (blocks : List OpenerBlock)
    → are_of_depths blocks (map depth_of openers) ≡ true
    → map depth_of now ≡ map depth_of openers → length blocks ≡ length now
as-many openers now blocks are same =
    lengths blocks (map depth_of openers) are ∙ ap length (sym same) ∙ length-map now depth_of

-- the blocks of the openers so far
pub one-more-put : (now : List Opener) (blocks : List OpenerBlock) (k : ℕ) (block : OpenerBlock) (new : Opener)
    → k < length now → k < length blocks
    → block ≡ get_or blocks k block → block_of new ≡ block → map block_of (take k now) ≡ take k blocks
    → map block_of (take (k + 1) (slice_set now k new)) ≡ take (k + 1) blocks
one-more-put now blocks k block new there within is put before =
    ap (map block_of) (take_more_set now k new there)
    ∙ map-append block_of (take k now) (new ∷ [])
    ∙ ap₂ (λ (front : List OpenerBlock) (last : OpenerBlock). front ++ last ∷ []) before (put ∙ is)
    ∙ sym (take_more blocks k block within)

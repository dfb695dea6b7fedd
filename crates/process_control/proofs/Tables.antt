-- What a receive table is after a request is taken or answered, or a whole table or what changed is put.
use Rattle.std.proofs.Common.{◌≡◌, ◌<◌, ℕ, zero, suc, arith, ℤ, Bool, true, if◌then◌else◌, List, Option, Some, [], ◌∷◌}
use Rattle.std.proofs.Common.{◌++◌, length, slice_get, slice_set, refl, ap, ap₂, sym, ◌∙◌}
use Rattle.process_semantics.specs.Process as process
use Rattle.process_semantics.specs.Process.{ProcessState}
use Rattle.checkpoint_image.specs.Receive.{after_answering, last_ones}
use Rattle.checkpoint_image.specs.declared.receive.OpenerBlock.{OpenerBlock}
use Rattle.checkpoint_image.specs.declared.receive.ReceiveBlock.{ReceiveBlock}
use Rattle.computed_changes.specs.sync_ids.specs.Changes.{add_few, table_with_change, fits_change}
use Rattle.computed_changes.specs.sync_ids.specs.Tables.{Remembered, IsSound, are_of_depths, can_hold, fits}
use Rattle.computed_changes.specs.sync_ids.specs.Tables.{last_taken, taken_in}
use Rattle.computed_changes.specs.sync_ids.specs.declared.change.ReceiveChange.{ReceiveChange}
use Rattle.computed_changes.specs.sync_ids.proofs.Tables.{and-left, and-right, lengths}
use Rattle.computed_changes.specs.world_semantics.specs.Core.{Core}
use Rattle.process_control.specs.Cores.{answering_at, answering_of, core_answered, core_answering, core_answering_at}

pub found : {A : Type 0} (xs : List A) (k : ℕ) → k < length xs → (x : A) × (slice_get xs k ≡ Some x)
found [] k below = absurd (omega (arith, below))
found (x ∷ xs) zero below = (x, refl)
found (x ∷ xs) (suc k) below = found xs k (omega (arith, below))

-- as many openers as depths
pub as-many : (remembered : Remembered) → IsSound remembered
    → length remembered.table.openers ≡ length remembered.depths
as-many remembered sound =
    lengths remembered.table.openers remembered.depths
    (and-left (are_of_depths remembered.table.openers remembered.depths)
    (can_hold remembered.table.openers remembered.table.in_hand) sound.table)

set-taken : (blocks : List OpenerBlock) (place : ℕ) (block new : OpenerBlock) → slice_get blocks place ≡ Some block
    → new.taken ≡ block.taken
    → taken_in (slice_get (slice_set blocks place new) place) ≡ taken_in (slice_get blocks place)
set-taken [] place block new at same = refl
set-taken (b ∷ blocks) zero block new at same = same ∙ ap taken_in (sym at)
set-taken (b ∷ blocks) (suc place) block new at same = set-taken blocks place block new at same

-- what was answered, and the core after it
module _ (core : Core) (depths : List ℕ) (place : ℕ) (words : List ℤ) (new : ProcessState) (after : ReceiveBlock)
    (held : core.receive.in_hand ≡ Some place)
    (block : OpenerBlock) (depth : ℕ) (at : slice_get core.receive.openers place ≡ Some block)
    (of : slice_get depths place ≡ Some depth)
    (told : words ≡ process.answer_of core.state) (is : new ≡ process.after_answered core.state)
    (kept : (block : OpenerBlock) (depth : ℕ) → slice_get core.receive.openers place ≡ Some block
    → slice_get depths place ≡ Some depth
    → after ≡ after_answering depth place block words core.receive) where
  pub answers : (number : ℕ) → number ≡ last_taken after place
      → answering_of core ≡ Some (record { opener = place; number = number; words = words })
  answers number last =
      ap (answering_at core) held
      ∙ ap₂ (λ (n : ℕ) (ws : List ℤ). Some (record { opener = place; number = n; words = ws })) (sym (last ∙ same))
      (sym told)
    where
      same : last_taken after place ≡ last_taken core.receive place
      same =
          ap (λ (t : ReceiveBlock). last_taken t place) (kept block depth at of)
          ∙ set-taken core.receive.openers place block
          (record block { kept = last_ones depth (block.kept ++ words ∷ []) }) at refl

  pub answered-core : core_answering depths core ≡ Some (record { state = new; next = core.next; receive = after })
  answered-core =
      ap (core_answering_at depths core) held
      ∙ ap₂ (λ (d : Option ℕ) (b : Option OpenerBlock). core_answered core place d b) of at
      ∙ ap₂ (λ (s : ProcessState) (r : ReceiveBlock). Some (record { state = s; next = core.next; receive = r }))
      (sym is)
      (ap (λ (ws : List ℤ). after_answering depth place block ws core.receive) (sym told)
      ∙ sym (kept block depth at of))

-- a table that fits is put
pub put-table : (fit told : Bool) (block before after : ReceiveBlock) → told ≡ fit → fit ≡ true
    → after ≡ (if told then block else before) → after ≡ block
put-table fit told block before after same yes_fit is =
    is ∙ ap (λ (b : Bool). if b then block else before) (same ∙ yes_fit)

-- the table that comes of a change which fits does so too
pub fits_whole : (r : Remembered) (change : ReceiveChange) → fits_change r change ≡ true
    → fits r (table_with_change r.depths r.table change) ≡ true
fits_whole r change is =
    and-right (add_few r.depths 0 change.changes) (fits r (table_with_change r.depths r.table change)) is

-- Openers into whose blocks changes are put, and what is remembered then.
use Rattle.std.proofs.Common.{◌≡◌, ℕ, ◌<◌, ◌&&◌, Bool, true, false, All, List, length, map, Option, Some, slice_get}
use Rattle.std.proofs.Common.{slice_set, ap, ap₂, sym, subst, ◌∙◌}
use Rattle.std.proofs.lemmas.List.{map-set}
use Rattle.checkpoint_image.specs.declared.receive.OpenerBlock.{OpenerBlock}
use Rattle.sync_ids.specs.Changes.{add_few, table_with_change, fits_change, put_at, put_in, with_change, with_changes}
use Rattle.sync_ids.specs.Changing.{all_fit, can_hold_after}
use Rattle.sync_ids.specs.Openers.{block_of, depth_of, remembered}
use Rattle.sync_ids.specs.Tables.{IsDepth, IsSound, Remembered, are_of_depths, can_hold, fits}
use Rattle.sync_ids.specs.declared.change.OpenerChange.{OpenerChange}
use Rattle.sync_ids.specs.declared.change.ReceiveChange.{ReceiveChange}
use Rattle.sync_ids.specs.declared.opener.Opener.{Opener}
use Rattle.sync_ids.proofs.Changes.{change-fits}
use Rattle.sync_ids.proofs.Openers.{part-at}
use Rattle.sync_ids.proofs.Tables.{and-left, and-right}

-- one opener's change is put into its block
pub one-changed : (openers : List Opener) (place : ℕ) (old new : Opener) (change : OpenerChange)
    → slice_get openers place ≡ Some old → place ≡ change.opener
    → block_of new ≡ put_in (depth_of old) (block_of old) change
    → map block_of (slice_set openers place new) ≡ with_change (map depth_of openers) (map block_of openers) change
one-changed openers place old new change at is put =
    map-set block_of openers place new
    ∙ ap₂ (λ (k : ℕ) (b : OpenerBlock). slice_set (map block_of openers) k b) is put
    ∙ sym (ap₂ (λ (d : Option ℕ) (b : Option OpenerBlock). put_at d b change (map block_of openers))
    (ap (slice_get (map depth_of openers)) (sym is) ∙ part-at depth_of openers place old at)
    (ap (slice_get (map block_of openers)) (sym is) ∙ part-at block_of openers place old at))

module _ (openers : List Opener) (in_hand : Option ℕ) (change : ReceiveChange)
    (sound : IsSound (remembered openers in_hand)) where
  abbrev depths : List ℕ
  depths = map depth_of openers

  abbrev blocks : List OpenerBlock
  blocks = map block_of openers

  both : (all_fit depths blocks 0 change.changes && can_hold_after depths blocks change.changes change.in_hand)
      ≡ fits_change (remembered openers in_hand) change
  both = change-fits (remembered openers in_hand) change
      (and-left (are_of_depths blocks depths) (can_hold blocks in_hand) sound.table)

  -- where the change of each opener fits, a change does if what it holds can be held
  pub fits-then : all_fit depths blocks 0 change.changes ≡ true
      → can_hold_after depths blocks change.changes change.in_hand ≡ fits_change (remembered openers in_hand) change
  fits-then fit =
      sym (ap (λ (b : Bool). b && can_hold_after depths blocks change.changes change.in_hand) fit) ∙ both

  -- and else it doesn't
  pub fits-else : all_fit depths blocks 0 change.changes ≡ false
      → false ≡ fits_change (remembered openers in_hand) change
  fits-else none =
      sym (ap (λ (b : Bool). b && can_hold_after depths blocks change.changes change.in_hand) none) ∙ both

-- where a change fits, what is remembered is sound when it was put in
pub sound_after : (old new : List Opener) (before : Option ℕ) (r : Remembered) (change : ReceiveChange)
    → remembered old before ≡ r → fits_change r change ≡ true
    → map block_of new ≡ with_changes (map depth_of old) (map block_of old) change.changes
    → map depth_of new ≡ map depth_of old → IsSound (remembered old before)
    → IsSound (remembered new change.in_hand)
sound_after old new before r change is fit blocks depths sound = record {
  few = subst (λ (ds : List ℕ). length ds < 4096) (sym depths) sound.few;
  depths = subst (λ (ds : List ℕ). All IsDepth ds) (sym depths) sound.depths;
  table = ap₂ (λ (bs : List OpenerBlock) (ds : List ℕ). are_of_depths bs ds && can_hold bs change.in_hand) blocks
      depths
      ∙ and-right (add_few (map depth_of old) 0 change.changes)
      (fits (remembered old before) (table_with_change (map depth_of old) (remembered old before).table change))
      (ap (λ (s : Remembered). fits_change s change) is ∙ fit);
}

-- and its table is that with the change put in
pub table_after : (old new : List Opener) (before : Option ℕ) (r : Remembered) (change : ReceiveChange)
    → remembered old before ≡ r
    → map block_of new ≡ with_changes (map depth_of old) (map block_of old) change.changes
    → (remembered new change.in_hand).table ≡ table_with_change r.depths r.table change
table_after old new before r change is blocks =
    ap (λ (bs : List OpenerBlock). record { openers = bs; in_hand = change.in_hand }) blocks
    ∙ ap (λ (s : Remembered). table_with_change s.depths s.table change) is

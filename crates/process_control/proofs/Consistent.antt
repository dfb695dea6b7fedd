-- What a copy does keeps it consistent.
use Rattle.std.proofs.Common.{◌≡◌, ℕ, ℤ, Bool, false, List, [], ◌∷◌, length, Some, None, is_some, slice_set, refl, sym}
use Rattle.std.proofs.Common.{subst, ap, ◌∙◌}
use Rattle.std.proofs.lemmas.List.{length-set}
use Rattle.process_semantics.specs.declared.point.Point.TheVariants as point
use Rattle.process_semantics.specs.Image.{state_from_words}
use Rattle.process_semantics.specs.Process as process
use Rattle.process_semantics.specs.Process.{ProcessState, Runs, Serves}
use Rattle.whole_states.specs.Listing.{files_of}
use Rattle.whole_states.specs.Processes.{IsWholeProcess}
use Rattle.whole_states.proofs.Hands.{inner-hand, took-hand, got-hand}
use Rattle.checkpoint_image.specs.declared.message.FileNumber.{FileNumber}
use Rattle.computed_changes.specs.sync_ids.specs.Tables.{Remembered, IsSound, nothing_taken}
use Rattle.computed_changes.specs.world_semantics.specs.Core.{with_files}
use Rattle.process_control.specs.Consistent.{IsConsistent, IsInOrder}
use Rattle.process_control.proofs.Ordered.{whole-order, inner-order, took-order, asked-order, got-order, answered-order}
use Rattle.process_control.proofs.Ordered.{checkpointed-order, device-order, restored-order, restored-hand}
use Rattle.process_control.proofs.Ordered.{restored-files}

files-length : (files : List FileNumber) (next : List ℕ) → length (with_files files next) ≡ length next
files-length [] next = refl
files-length (named ∷ files) next =
    files-length files (slice_set next named.file named.next) ∙ length-set next named.file named.next

pub starting : (state : ProcessState) (next : List ℕ) (remembered : Remembered) (depths : List ℕ)
    → IsWholeProcess state → process.in_hand state ≡ false
    → length next ≡ files_of state → remembered ≡ nothing_taken depths → IsSound remembered
    → IsConsistent state next remembered
starting state next remembered depths whole free files nothing sound = record {
  order = whole-order state whole;
  hand = free ∙ ap (λ (r : Remembered). is_some r.table.in_hand) (sym nothing);
  files = files;
  table = sound;
}

-- the steps of a process leave its files
inner-files : (s : ProcessState) → files_of (process.after_inner s) ≡ files_of s
inner-files (Runs program s) = refl
inner-files (Serves sectors s) = refl

took-files : (s : ProcessState) (words : List ℤ) → files_of (process.after_took s words) ≡ files_of s
took-files (Runs program s) words = refl
took-files (Serves sectors s) words = refl

asked-files : (s : ProcessState) → files_of (process.after_asked s) ≡ files_of s
asked-files (Runs program s) = refl
asked-files (Serves sectors s) = refl

asked-hand : (s : ProcessState) → process.in_hand (process.after_asked s) ≡ process.in_hand s
asked-hand (Runs program s) = refl
asked-hand (Serves sectors s) = refl

got-files : (s : ProcessState) (words : List ℤ) → files_of (process.after_got s words) ≡ files_of s
got-files (Runs program s) words = refl
got-files (Serves sectors s) words = refl

answered-files : (s : ProcessState) → files_of (process.after_answered s) ≡ files_of s
answered-files (Runs program s) = refl
answered-files (Serves sectors s) = refl

answered-hand : (s : ProcessState) → process.in_hand (process.after_answered s) ≡ false
answered-hand (Runs program s) = refl
answered-hand (Serves sectors s) = refl

checkpointed-files : (s : ProcessState) → files_of (process.after_checkpoint s) ≡ files_of s
checkpointed-files (Runs program s) = refl
checkpointed-files (Serves sectors s) = refl

checkpointed-hand : (s : ProcessState) → process.in_hand (process.after_checkpoint s) ≡ process.in_hand s
checkpointed-hand (Runs program s) = refl
checkpointed-hand (Serves sectors s) = refl

device-files : (s : ProcessState) (words : List ℤ) → files_of (process.after_device s words) ≡ files_of s
device-files (Runs program s) words = refl
device-files (Serves sectors s) words = refl

device-hand : (s : ProcessState) (words : List ℤ) → process.in_hand (process.after_device s words) ≡ process.in_hand s
device-hand (Runs program s) words = refl
device-hand (Serves sectors s) words = refl

module _ (state new : ProcessState) (next : List ℕ) (remembered : Remembered)
    (is : IsConsistent state next remembered) where
  -- a step to a state in order, with as much in hand and as many files
  stepping : (to : ProcessState) → IsInOrder to → process.in_hand to ≡ process.in_hand state
      → files_of to ≡ files_of state → new ≡ to
      → IsConsistent new next remembered
  stepping to order hand files same = subst (λ (s : ProcessState). IsConsistent s next remembered) (sym same) (record {
    order = order;
    hand = hand ∙ is.hand;
    files = is.files ∙ sym files;
    table = is.table;
  })

  pub going : new ≡ process.after_inner state → IsConsistent new next remembered
  going = stepping (process.after_inner state) (inner-order state is.order) (inner-hand state) (inner-files state)

  pub getting : (words : List ℤ) → process.point state ≡ point.Await → new ≡ process.after_got state words
      → IsConsistent new next remembered
  getting words at = stepping (process.after_got state words) (got-order state words at is.order)
      (got-hand state words) (got-files state words)

  pub passing : process.point state ≡ point.AtCheckpoint → new ≡ process.after_checkpoint state
      → IsConsistent new next remembered
  passing at = stepping (process.after_checkpoint state) (checkpointed-order state at is.order)
      (checkpointed-hand state)
      (checkpointed-files state)

  pub acting : (found : List ℤ) → process.point state ≡ point.Device → new ≡ process.after_device state found
      → IsConsistent new next remembered
  acting found at = stepping (process.after_device state found) (device-order state found at is.order)
      (device-hand state found) (device-files state found)

  pub asking : (others : List ℕ) → process.point state ≡ point.Ask → new ≡ process.after_asked state
      → length others ≡ length next
      → IsConsistent new others remembered
  asking others at same lengths =
      let asked = stepping (process.after_asked state) (asked-order state at is.order) (asked-hand state)
      (asked-files state) same in
      record { order = asked.order; hand = asked.hand; files = lengths ∙ asked.files; table = asked.table }

  pub taking : (words : List ℤ) (after : Remembered) (place : ℕ) → process.point state ≡ point.Take
      → new ≡ process.after_took state words
      → after.table.in_hand ≡ Some place → IsSound after → IsConsistent new next after
  taking words after place at same held sound = record {
    order = subst IsInOrder (sym same) (took-order state words at is.order);
    hand = ap process.in_hand same ∙ took-hand state words at ∙ ap is_some (sym held);
    files = is.files ∙ sym (ap files_of same ∙ took-files state words);
    table = sound;
  }

  pub answering : (after : Remembered) → process.point state ≡ point.Answer → new ≡ process.after_answered state
      → after.table.in_hand ≡ None → IsSound after
      → IsConsistent new next after
  answering after at same held sound = record {
    order = subst IsInOrder (sym same) (answered-order state at is.order);
    hand = ap process.in_hand same ∙ answered-hand state ∙ ap is_some (sym held);
    files = is.files ∙ sym (ap files_of same ∙ answered-files state);
    table = sound;
  }

  pub applying : (hand : Bool) (words : List ℤ) (files : List FileNumber) (others : List ℕ) (after : Remembered)
      → state_from_words state hand words ≡ Some new
      → hand ≡ is_some after.table.in_hand → others ≡ with_files files next → IsSound after
      → IsConsistent new others after
  applying hand words files others after there held put sound = record {
    order = restored-order state new hand words is.order there;
    hand = restored-hand state new hand words there ∙ held;
    files = ap length put ∙ files-length files next ∙ is.files ∙ restored-files state new hand words there;
    table = sound;
  }

-- The image of everything tells the imaged state.
use Rattle.std.proofs.Common.{◌≡◌, inl, inr, ℕ, zero, suc, ◌+◌, Bool, true, false, if◌then◌else◌, List, [], ◌∷◌, Some}
use Rattle.std.proofs.Common.{slice_get, refl, ap, sym, subst, ◌∙◌, arith}
use Rattle.std.proofs.lemmas.Option.{same_Some}
use Rattle.whole_states.specs.gd_words.specs.Members.{IsAmong, AreDistinct}
use Rattle.whole_states.specs.tal_tree.specs.Named.{IsProcess}
use Rattle.whole_states.specs.tal_tree.specs.Regular.{MayBeListed}
use Rattle.whole_states.specs.tal_tree.specs.Shapes.{has_words}
use Rattle.whole_states.specs.tal_tree.specs.declared.program.FileUse.{FileUse}
use Rattle.whole_states.specs.tal_tree.specs.declared.program.Item.{Item}
use Rattle.whole_states.specs.tal_tree.specs.declared.program.Program.{Program}
use Rattle.whole_states.specs.tal_tree.specs.declared.program.Target.{Target}
use Rattle.whole_states.specs.tal_tree.specs.declared.program.Target.TheVariants as target
use Rattle.whole_states.specs.process_semantics.specs.declared.point.Point.TheVariants as point
use Rattle.whole_states.specs.process_semantics.specs.Image.{state_in_image, image_of, state_from_words}
use Rattle.whole_states.specs.process_semantics.specs.Process as process
use Rattle.whole_states.specs.process_semantics.specs.Process.{ProcessState, Runs, Serves}
use Rattle.whole_states.specs.Listing.{MayList}
use Rattle.whole_states.specs.Processes.{IsWholeProcess}
use Rattle.process_images.specs.Images.{AreOfOne, AgreeBut, Agrees, listable_from, everything_of, asks_a_process}
use Rattle.process_images.specs.Images.{asking_from, all_files_of}
use Rattle.process_images.proofs.Processes.{restores}

-- Each number is that of an item that may be listed, and stands once

record IsFrom (first : ℕ) (items : List Item) (k : ℕ) : Type 0 where
  place : ℕ
  is : k ≡ first + place
  item : Item
  there : slice_get items place ≡ Some item
  filled : has_words item.shape ≡ true

from-later : {first : ℕ} {items : List Item} {k : ℕ} (item : Item) → IsFrom (first + 1) items k
    → IsFrom first (item ∷ items) k
from-later item is = let same = is.is in
    record { place = suc is.place; is = omega (arith, same); item = is.item; there = is.there; filled = is.filled }

from-list : (first : ℕ) (items : List Item) (k : ℕ) → IsAmong k (listable_from first items) → IsFrom first items k
from-list first [] k among = absurd among
from-list first (item ∷ items) k among =
    which (has_words item.shape) refl among (λ later. from-list (first + 1) items k later)
  where
    which : (b : Bool) → has_words item.shape ≡ b
        → IsAmong k (if b then first ∷ listable_from (first + 1) items else listable_from (first + 1) items)
        → (IsAmong k (listable_from (first + 1) items) → IsFrom (first + 1) items k) → IsFrom first (item ∷ items) k
    which true filled (inl same) later =
        record { place = 0; is = omega (arith, same); item = item; there = refl; filled = filled }
    which true filled (inr among) later = from-later item (later among)
    which false filled among later = from-later item (later among)

distinct-list : (first : ℕ) (items : List Item) → AreDistinct (listable_from first items)
distinct-list first [] = tt
distinct-list first (item ∷ items) = which (has_words item.shape) (distinct-list (first + 1) items)
  where
    which : (b : Bool) → AreDistinct (listable_from (first + 1) items)
        → AreDistinct (if b then first ∷ listable_from (first + 1) items else listable_from (first + 1) items)
    which true later =
        ((λ among. let is = from-list (first + 1) items first among in let same = is.is in omega (arith, same)), later)
    which false later = later

-- Each number of a file is that of one that is opened to a process, and stands once

record IsFileFrom (first : ℕ) (files : List FileUse) (k : ℕ) : Type 0 where
  place : ℕ
  is : k ≡ first + place
  file : FileUse
  there : slice_get files place ≡ Some file
  asks : asks_a_process file.target ≡ true

file-later : {first : ℕ} {files : List FileUse} {k : ℕ} (file : FileUse) → IsFileFrom (first + 1) files k
    → IsFileFrom first (file ∷ files) k
file-later file is = let same = is.is in
    record { place = suc is.place; is = omega (arith, same); file = is.file; there = is.there; asks = is.asks }

file-from : (first : ℕ) (files : List FileUse) (k : ℕ) → IsAmong k (asking_from first files) → IsFileFrom first files k
file-from first [] k among = absurd among
file-from first (file ∷ files) k among =
    which (asks_a_process file.target) refl among (λ later. file-from (first + 1) files k later)
  where
    which : (b : Bool) → asks_a_process file.target ≡ b
        → IsAmong k (if b then first ∷ asking_from (first + 1) files else asking_from (first + 1) files)
        → (IsAmong k (asking_from (first + 1) files) → IsFileFrom (first + 1) files k)
        → IsFileFrom first (file ∷ files) k
    which true asks (inl same) later =
        record { place = 0; is = omega (arith, same); file = file; there = refl; asks = asks }
    which true asks (inr among) later = file-later file (later among)
    which false asks among later = file-later file (later among)

distinct-files : (first : ℕ) (files : List FileUse) → AreDistinct (asking_from first files)
distinct-files first [] = tt
distinct-files first (file ∷ files) = which (asks_a_process file.target) (distinct-files (first + 1) files)
  where
    which : (b : Bool) → AreDistinct (asking_from (first + 1) files)
        → AreDistinct (if b then first ∷ asking_from (first + 1) files else asking_from (first + 1) files)
    which true later =
        ((λ among. let is = file-from (first + 1) files first among in let same = is.is in omega (arith, same)), later)
    which false later = later

opened-to : (program : Program) (k : ℕ) (file : FileUse) (to : Target) → file.target ≡ to
    → slice_get program.files k ≡ Some file → asks_a_process to ≡ true → IsProcess program k
opened-to program k file target.Receive is there asks = absurd (cc)
opened-to program k file (target.Process name) is there asks =
    record { opened = file; process = name; there = there; is = is }

pub everything-listed : (s : ProcessState) → MayList s (everything_of s) []
everything-listed (Runs program s) = record {
  distinct_items = distinct-list 0 program.items;
  items_there = λ k among. let is = from-list 0 program.items k among in let same = is.is in
      record {
        item = is.item;
        there = subst (λ (j : ℕ). slice_get program.items j ≡ Some is.item)
            (omega (arith, same)) is.there;
        words = is.filled;
      };
  distinct_files = tt;
  files_there = λ k none. absurd none;
}
everything-listed (Serves sectors s) = (refl, refl)

pub whole-listed : (s : ProcessState) → MayList s (everything_of s) (all_files_of s)
whole-listed (Runs program s) = record {
  distinct_items = (everything-listed (Runs program s)).distinct_items;
  items_there = (everything-listed (Runs program s)).items_there;
  distinct_files = distinct-files 0 program.files;
  files_there = λ k among. let is = file-from 0 program.files k among in let same = is.is in
      opened-to program k is.file is.file.target refl
      (subst (λ (j : ℕ). slice_get program.files j ≡ Some is.file) (omega (arith, same)) is.there)
      is.asks;
}
whole-listed (Serves sectors s) = (refl, refl)

-- Each item that may be listed is there

in-list : (first : ℕ) (items : List Item) (k : ℕ) (item : Item) → slice_get items k ≡ Some item
    → has_words item.shape ≡ true
    → IsAmong (first + k) (listable_from first items)
in-list first [] k item there filled = absurd (cc)
in-list first (one ∷ items) zero item there filled =
    subst (λ (b : Bool). IsAmong (first + 0)
    (if b then first ∷ listable_from (first + 1) items else listable_from (first + 1) items))
    (sym (ap (λ (i : Item). has_words i.shape) (same_Some _ _ there) ∙ filled)) (inl (omega arith))
in-list first (one ∷ items) (suc k) item there filled =
    which (has_words one.shape) (subst (λ (n : ℕ). IsAmong n (listable_from (first + 1) items))
    (let same : first + 1 + k ≡ first + suc k = omega arith in same)
    (in-list (first + 1) items k item there filled))
  where
    which : (b : Bool) → IsAmong (first + suc k) (listable_from (first + 1) items)
        → IsAmong (first + suc k) (if b then first
        ∷ listable_from (first + 1) items else listable_from (first + 1) items)
    which true among = inr among
    which false among = among

everything-there : (program : Program) (k : ℕ) → MayBeListed program k → IsAmong k (listable_from 0 program.items)
everything-there program k may =
    subst (λ (n : ℕ). IsAmong n (listable_from 0 program.items)) (let same : 0 + k ≡ k = omega arith in same)
    (in-list 0 program.items k may.item may.there may.words)

pub everything-agrees : (s t : ProcessState) → AreOfOne s t → Agrees (everything_of t) s t
everything-agrees (Runs program s) (Runs other t) same = (
  same,
  subst (λ (p : Program). AgreeBut p (listable_from 0 other.items) s.globals t.globals) (sym same)
      (λ k may apart. absurd (apart (everything-there other k may))),
)
everything-agrees (Serves sectors s) (Serves others t) same = same
everything-agrees (Runs program s) (Serves others t) same = absurd same
everything-agrees (Serves sectors s) (Runs other t) same = absurd same

of-itself : (s : ProcessState) → AreOfOne s s
of-itself (Runs program s) = refl
of-itself (Serves sectors s) = refl

pub everything-tells : (s t : ProcessState) → IsWholeProcess s → IsWholeProcess t → AreOfOne s t
    → (process.point s ≡ point.Await → ⊥)
    → (process.point t ≡ point.Await → ⊥)
    → process.in_hand s ≡ process.in_hand t → image_of (everything_of s) s ≡ image_of (everything_of t) t
    → state_in_image s ≡ state_in_image t
everything-tells s t is other same away away_too hand words =
    same_Some _ _ (sym (restores s s (everything_of s) [] is is (everything-listed s) away
    (everything-agrees s s (of-itself s)))
    ∙ ap (λ h. state_from_words s h (image_of (everything_of s) s)) hand
    ∙ ap (state_from_words s (process.in_hand t)) words
    ∙ restores t s (everything_of t) [] other is (everything-listed t) away_too (everything-agrees s t same))

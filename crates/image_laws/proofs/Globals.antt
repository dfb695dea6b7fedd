-- The items of a state are read off their words.
use Rattle.std.proofs.Common.{◌≡◌, ℕ, ◌+◌, ℤ, pos, Bool, true, false, if◌then◌else◌, List, [], ◌∷◌, ◌++◌}
use Rattle.std.proofs.Common.{length, map, flat_map, Option, Some, refl, ap, sym, ◌∙◌, arith}
use Rattle.std.proofs.Common.{append_assoc, append-nil, length-append, option_and_then}
use Rattle.std.specs.Option.{unwrap_or}
use Rattle.image_places.specs.Memories.{global_in, globals_from, globals_in}
use Rattle.process_images.proofs.Fronts.{words-read}
use Rattle.process_images.specs.Images.{listable_from}
use Rattle.process_semantics.specs.Changes.{ends}
use Rattle.process_semantics.specs.Image.{item_words, program_words}
use Rattle.process_semantics.specs.State.{ProgramState, words_of}
use Rattle.process_semantics.specs.Words.{words_in}
use Rattle.tal_tree.specs.Shapes.{has_words, width}
use Rattle.tal_tree.specs.declared.program.Item.{Item}
use Rattle.tal_tree.specs.declared.program.Program.{Program}
use Rattle.tal_tree.specs.declared.program.Shape.{Shape}
use Rattle.tal_tree.specs.declared.program.Shape.TheVariants as shape
use Rattle.whole_states.specs.Whole.{IsWhole, sizes_of}

-- the words of the item behind so many others
words-there : (before : List (List ℤ)) (own : List ℤ) (others : List (List ℤ))
    → words_of (before ++ own ∷ others) (length before) ≡ own
words-there [] own others = refl
words-there (words ∷ before) own others = words-there before own others

-- an item that has words is read behind its number
global-there : (s : Shape) (number : ℕ) (own left : List ℤ) → has_words s ≡ true → length own ≡ width s
    → global_in s (pos number ∷ own ++ left) ≡ Some (own, left)
global-there s number own left has size =
    ap (λ (b : Bool). if b then words_in (width s) (own ++ left) else Some ([], pos number ∷ own ++ left)) has
    ∙ words-read own left (width s) size

-- a file has none
file-there : (s : Shape) (own left : List ℤ) → has_words s ≡ false → length own ≡ width s
    → global_in s left ≡ Some (own, left)
file-there shape.Simple own left has size = absurd (cc)
file-there (shape.Array low high) own left has size = absurd (cc)
file-there (shape.File target) [] left has size = refl
file-there (shape.File target) (word ∷ own) left has size = absurd (omega arith)

module _ (s : ProgramState) where
  -- the words of the items from a place on
  abbrev words_from : ℕ → List Item → List ℤ
  words_from k items = flat_map (item_words s) (listable_from k items)

  items-read : (items : List Item) (before others : List (List ℤ)) (k : ℕ) → k ≡ length before
      → s.globals ≡ before ++ others → sizes_of others ≡ map (λ item. width item.shape) items
      → globals_from items (words_from k items) before ≡ Some (before ++ others)
  items-read [] before [] k at is sizes = ap Some (sym (append-nil before))
  items-read [] before (own ∷ others) k at is sizes = absurd (cc)
  items-read (item ∷ items) before [] k at is sizes = absurd (cc)
  items-read (item ∷ items) before (own ∷ others) k at is sizes =
      by (has_words item.shape) refl
      (items-read items (before ++ own ∷ []) others (k + 1)
      (let long = length-append before (own ∷ []) in omega (arith, long, at))
      (is ∙ sym (append_assoc before (own ∷ []) others))
      (let rest : sizes_of others ≡ map (λ item. width item.shape) items = cc in rest))
    where
      size : length own ≡ width item.shape
      size = cc

      own-is : words_of s.globals k ≡ own
      own-is = (λ i. words_of (is i) (at i)) ∙ words-there before own others

      by : (b : Bool) → has_words item.shape ≡ b
          → globals_from items (words_from (k + 1) items) (before ++ own ∷ []) ≡ Some ((before ++ own ∷ []) ++ others)
          → globals_from (item ∷ items)
          (flat_map (item_words s) (if b then k ∷ listable_from (k + 1) items else listable_from (k + 1) items)) before
          ≡ Some (before ++ own ∷ others)
      by true has later =
          ap (λ (words : List ℤ). globals_from (item ∷ items) (pos k ∷ words ++ words_from (k + 1) items) before) own-is
          ∙ ap (option_and_then (λ (one, left). globals_from items left (before ++ one ∷ [])))
          (global-there item.shape k own (words_from (k + 1) items) has size)
          ∙ later ∙ ap Some (append_assoc before (own ∷ []) others)
      by false has later =
          ap (option_and_then (λ (one, left). globals_from items left (before ++ one ∷ [])))
          (file-there item.shape own (words_from (k + 1) items) has size)
          ∙ later ∙ ap Some (append_assoc before (own ∷ []) others)

pub globals-read : (program : Program) (s : ProgramState) → IsWhole program s
    → globals_in program (program_words (listable_from 0 program.items) (ends s)) ≡ s.globals
globals-read program s whole =
    ap (λ (found : Option (List (List ℤ))). unwrap_or found [])
    (items-read (ends s) program.items [] s.globals 0 refl refl whole.globals)

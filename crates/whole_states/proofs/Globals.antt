-- How many words the globals of whole states have.
use Rattle.std.proofs.Common.{◌≡◌, ◌≤◌, ℕ, zero, suc, ℤ, pos, List, [], ◌∷◌, ◌++◌, length, map, drop, slice_set, refl}
use Rattle.std.proofs.Common.{ap, ap₂, arith}
use Rattle.std.proofs.lemmas.List.{length-replicate}
use Rattle.process_semantics.specs.tal_tree.specs.Shapes.{width}
use Rattle.process_semantics.specs.tal_tree.specs.declared.program.Item.{Item}
use Rattle.process_semantics.specs.State.{words_of, zeros}
use Rattle.whole_states.specs.Whole.{sizes_of}

-- words in the place of as many others
pub set-sizes : (globals : List (List ℤ)) (item : ℕ) (words : List ℤ) → length words ≡ length (words_of globals item)
    → sizes_of (slice_set globals item words) ≡ sizes_of globals
set-sizes [] item words same = refl
set-sizes (old ∷ globals) zero words same = ap (λ (n : ℕ). n ∷ sizes_of globals) same
set-sizes (old ∷ globals) (suc item) words same =
    ap (λ (ns : List ℕ). length old ∷ ns) (set-sizes globals item words same)

-- words at the start of others
pub over-length : (words old : List ℤ) → length words ≤ length old
    → length (words ++ drop (length words) old) ≡ length old
over-length [] old few = refl
over-length (word ∷ words) [] few = absurd (omega arith)
over-length (word ∷ words) (one ∷ old) few = ap suc (over-length words old (omega arith))

-- a program's globals at its beginning
pub first-sizes : (items : List Item) → sizes_of (map (λ (item : Item). zeros (width item.shape)) items)
    ≡ map (λ (item : Item). width item.shape) items
first-sizes [] = refl
first-sizes (item ∷ items) =
    ap₂ (λ (n : ℕ) (ns : List ℕ). n ∷ ns) (length-replicate (width item.shape) (pos 0)) (first-sizes items)

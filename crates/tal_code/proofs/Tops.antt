-- The word that code leaves on top, whether or not it is run with a stack.
use Rattle.std.proofs.Common.{◌≡◌, ℕ, length-drop, ℤ, List, ◌∷◌, length, Option, refl, ap, sym, subst, ◌∙◌, arith}
use Rattle.tal_values.specs.Value.{Memory, value_of}
use Rattle.tal_code.specs.declared.step.Operand.{Operand}
use Rattle.tal_code.specs.declared.step.Instruction.{Instruction}
use Rattle.tal_code.specs.declared.step.Instruction.TheVariants as step
use Rattle.tal_code.specs.Words.{WordStack, no_words, one_word, operand_expr, words_after, words_after_all}
use Rattle.tal_code.specs.Parts.{Shows, built, nothing, parts_after}
use Rattle.tal_code.specs.Room.{IsRoom, height_after, RoomFrom}
use Rattle.tal_code.proofs.Shown.{ShowsAll, all-shown}

-- steps that need no stack were gone through: those that are left make of the top what all make of the first one
pub record Lightens (m : Memory) (first : Option ℤ) (steps : List Instruction) (top : Option ℤ)
    (left : List Instruction) : Type 0 where
  pub same : words_after_all m left (one_word top) ≡ words_after_all m steps (one_word first)
  pub room : RoomFrom 1 left

-- steps were gone through with a stack
pub record Deepens (m : Memory) (start : WordStack) (steps : List Instruction) (words : WordStack)
    (left : List Instruction) : Type 0 where
  pub same : words_after_all m left words ≡ words_after_all m steps start
  pub room : RoomFrom (length words.below) left

height-of-words : (m : Memory) (s : Instruction) (words : WordStack)
    → length (words_after m s words).below ≡ height_after s (length words.below)
height-of-words m (step.Load o) words = omega arith
height-of-words m (step.With op o) words = refl
height-of-words m (step.Two op) words = length-drop 1 words.below
height-of-words m step.Minus words = refl
height-of-words m (step.Element item) words = refl
height-of-words m step.Truth words = refl
height-of-words m (step.CompareWith rel o) words = refl
height-of-words m (step.Compare rel) words = length-drop 1 words.below
height-of-words m step.Not words = refl
height-of-words m step.And words = length-drop 1 words.below
height-of-words m step.Or words = length-drop 1 words.below

-- there is room for the next step, and for those after it
here-and-on : (n : ℕ) {left : List Instruction} (s : Instruction) (rest : List Instruction) → left ≡ s ∷ rest
    → RoomFrom n left → IsRoom s n × RoomFrom (height_after s n) rest
here-and-on n s rest is room = subst (λ xs. RoomFrom n xs) is room

pub deepens-room : {m : Memory} {start : WordStack} {steps left : List Instruction} {words : WordStack}
    (s : Instruction) (rest : List Instruction)
    → left ≡ s ∷ rest → Deepens m start steps words left → IsRoom s (length words.below)
deepens-room {m} {start} {steps} {left} {words} s rest is so_far =
    (here-and-on (length words.below) s rest is so_far.room).0

pub deepens : {m : Memory} {start : WordStack} {steps left : List Instruction} {words new : WordStack}
    (s : Instruction) (rest : List Instruction)
    → left ≡ s ∷ rest → new ≡ words_after m s words → Deepens m start steps words left → Deepens m start steps new rest
deepens {m} {start} {steps} {left} {words} {new} s rest is stepped so_far = record {
  same = ap (words_after_all m rest) stepped ∙ ap (λ xs. words_after_all m xs words) (sym is) ∙ so_far.same;
  room =
      let high : length new.below ≡ height_after s (length words.below) =
      ap (λ (w : WordStack). length w.below) stepped ∙ height-of-words m s words in
      subst (λ n. RoomFrom n rest) (sym high) (here-and-on (length words.below) s rest is so_far.room).1;
}

-- code that begins with a word
pub first-load : (m : Memory) (o : Operand) (steps rest : List Instruction) (first result : Option ℤ)
    → steps ≡ step.Load o ∷ rest
    → first ≡ value_of m (operand_expr o) → result ≡ (words_after_all m rest (one_word first)).top
    → Shows m (built steps).top result
first-load m o steps rest first result is at_first at_result =
    let begun : ShowsAll m (parts_after (step.Load o) nothing) (one_word first) =
    record { top = at_first; below = (tt, tt) } in
    let shown : ShowsAll m (built (step.Load o ∷ rest)) (words_after_all m rest (one_word first)) =
    all-shown m rest (parts_after (step.Load o) nothing) (one_word first) begun in
    subst (λ xs. Shows m (built xs).top result) (sym is)
    (subst (λ w. Shows m (built (step.Load o ∷ rest)).top w) (sym at_result) shown.top)

-- code that is run with a stack from its beginning
pub all-from-nothing : (m : Memory) (steps : List Instruction) (words new : WordStack) → words ≡ no_words
    → new ≡ words_after_all m steps words
    → Shows m (built steps).top new.top
all-from-nothing m steps words new is at_new =
    let shown : ShowsAll m (built steps) (words_after_all m steps no_words) =
    all-shown m steps nothing no_words (record { top = tt; below = tt }) in
    subst (λ (w : WordStack). Shows m (built steps).top w.top) (sym (at_new ∙ ap (words_after_all m steps) is))
    shown.top

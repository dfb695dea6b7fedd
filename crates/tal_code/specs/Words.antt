-- What the steps of flat code make of a stack of words. A word that is none is a trap: steps go on, and it is lost
-- where none looks at it.
use Rattle.std.specs.Prelude.{ℕ, ℤ, pos, neg_ℤ, Bool, true, false, not, if◌then◌else◌, List, [], ◌∷◌, drop, Option}
use Rattle.std.specs.Prelude.{Some, None, option_map, option_and_then}
use Rattle.std.specs.Ordering.{int_eq}
use Rattle.gd_words.specs.Arithmetic.{wrap}
use Rattle.tal_tree.specs.declared.expression.Rel.{Rel}
use Rattle.tal_tree.specs.declared.expression.Spot.TheVariants as spot
use Rattle.tal_tree.specs.declared.expression.Expr.{Expr}
use Rattle.tal_tree.specs.declared.expression.Expr.TheVariants as expr
use Rattle.tal_values.specs.declared.memory.Cell.TheVariants as cell
use Rattle.tal_values.specs.Value.{Memory, value_of, place_of, word_at, both, holds, result_of}
use Rattle.tal_code.specs.declared.step.Operand.{Operand}
use Rattle.tal_code.specs.declared.step.Operand.TheVariants as operand
use Rattle.tal_code.specs.declared.step.Instruction.{Instruction}
use Rattle.tal_code.specs.declared.step.Instruction.TheVariants as step

-- the word on top, and those below it, the uppermost first
pub record WordStack : Type 0 where
  pub top : Option ℤ
  pub below : List (Option ℤ)

-- where code begins: nothing but a top that is no word
abbrev pub no_words : WordStack
no_words = record { top = None; below = [] }

-- a word on top of this
abbrev pub one_word : Option ℤ → WordStack
one_word word = record { top = word; below = None ∷ [] }

-- a truth as a word
abbrev pub as_word : Bool → ℤ
as_word true = pos 1
as_word false = pos 0

-- the uppermost of the words below the top
abbrev pub first_word : List (Option ℤ) → Option ℤ
first_word [] = None
first_word (word ∷ words) = word

-- the expression that an operand stands for
abbrev pub operand_expr : Operand → Expr
operand_expr (operand.Number n) = expr.Number n
operand_expr (operand.Local k) = expr.Read (spot.Local k)
operand_expr (operand.Simple k) = expr.Read (spot.Simple k)

-- the word of the element of an item at an index
abbrev pub element_word : Memory → ℕ → Option ℤ → Option ℤ
element_word m item index =
    option_and_then (word_at m) (option_map (cell.Global item) (option_and_then (place_of m item) index))

-- whether a word isn't 0
abbrev pub truth_word : Option ℤ → Option ℤ
truth_word word = option_map (λ x. as_word (not (int_eq x (pos 0)))) word

-- whether a relation holds of two words
abbrev pub compared_word : Rel → Option ℤ → Option ℤ → Option ℤ
compared_word rel left right = both (λ x y. Some (as_word (holds rel x y))) left right

-- whether a word is 0
abbrev pub not_word : Option ℤ → Option ℤ
not_word word = option_map (λ x. as_word (int_eq x (pos 0))) word

-- AND of two truths: where the left one is 0, a trap of the right one is none of both
abbrev pub and_word : Option ℤ → Option ℤ → Option ℤ
and_word None right = None
and_word (Some x) right = if int_eq x (pos 0) then Some (pos 0) else right

-- OR of two truths: where the left one isn't 0, a trap of the right one is none of both
abbrev pub or_word : Option ℤ → Option ℤ → Option ℤ
or_word None right = None
or_word (Some x) right = if int_eq x (pos 0) then right else Some (pos 1)

-- the words after a step
abbrev pub words_after : Memory → Instruction → WordStack → WordStack
words_after m (step.Load o) s = record { top = value_of m (operand_expr o); below = s.top ∷ s.below }
words_after m (step.With op o) s = record s { top = both (result_of op) s.top (value_of m (operand_expr o)) }
words_after m (step.Two op) s = record { top = both (result_of op) (first_word s.below) s.top; below = drop 1 s.below }
words_after m step.Minus s = record s { top = option_map (λ x. wrap (neg_ℤ x)) s.top }
words_after m (step.Element item) s = record s { top = element_word m item s.top }
words_after m step.Truth s = record s { top = truth_word s.top }
words_after m (step.CompareWith rel o) s = record s { top = compared_word rel s.top (value_of m (operand_expr o)) }
words_after m (step.Compare rel) s =
    record { top = compared_word rel (first_word s.below) s.top; below = drop 1 s.below }
words_after m step.Not s = record s { top = not_word s.top }
words_after m step.And s = record { top = and_word (first_word s.below) s.top; below = drop 1 s.below }
words_after m step.Or s = record { top = or_word (first_word s.below) s.top; below = drop 1 s.below }

-- the words after steps, one after the other
abbrev pub words_after_all : Memory → List Instruction → WordStack → WordStack
words_after_all m [] s = s
words_after_all m (step ∷ steps) s = words_after_all m steps (words_after m step s)

-- the word on top after a step that leaves the words below it; none for other steps
abbrev pub light_word : Memory → Instruction → Option ℤ → Option (Option ℤ)
light_word m (step.With op o) word = Some (both (result_of op) word (value_of m (operand_expr o)))
light_word m step.Minus word = Some (option_map (λ x. wrap (neg_ℤ x)) word)
light_word m (step.Element item) word = Some (element_word m item word)
light_word m step.Truth word = Some (truth_word word)
light_word m (step.CompareWith rel o) word = Some (compared_word rel word (value_of m (operand_expr o)))
light_word m step.Not word = Some (not_word word)
light_word m _ word = None

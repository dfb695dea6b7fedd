-- What flat code computes: steps over a stack of the expressions and conditions that its words are of.
use Rattle.std.specs.Prelude.{◌≡◌, ℕ, ℤ, pos, List, [], ◌∷◌, drop, Option, option_map}
use Rattle.tal_tree.specs.declared.expression.Op.{Op}
use Rattle.tal_tree.specs.declared.expression.Rel.{Rel}
use Rattle.tal_tree.specs.declared.expression.Spot.TheVariants as spot
use Rattle.tal_tree.specs.declared.expression.Expr.{Expr}
use Rattle.tal_tree.specs.declared.expression.Expr.TheVariants as expr
use Rattle.tal_tree.specs.declared.expression.Cond.{Cond}
use Rattle.tal_tree.specs.declared.expression.Cond.TheVariants as cond
use Rattle.tal_values.specs.Value.{Memory, value_of, truth_of}
use Rattle.tal_values.specs.declared.chain.Junction.{Junction}
use Rattle.tal_values.specs.declared.chain.Junction.TheVariants as junction
use Rattle.tal_code.specs.declared.step.Instruction.{Instruction}
use Rattle.tal_code.specs.declared.step.Instruction.TheVariants as step
use Rattle.tal_code.specs.Words.{as_word, operand_expr}

-- what a word is the value of: nothing that is known, an expression, or a condition
pub data Part : Type 0 where
  Lacking : Part
  Valued : Expr → Part
  Tested : Cond → Part

-- the part on top, and those below it, the uppermost first
pub record PartStack : Type 0 where
  pub top : Part
  pub below : List Part

-- where code begins
abbrev pub nothing : PartStack
nothing = record { top = Lacking; below = [] }

-- the uppermost of the parts below the top
abbrev pub first_part : List Part → Part
first_part [] = Lacking
first_part (part ∷ parts) = part

-- what each operator makes of parts; nothing that is known, where they aren't of its kind
abbrev pub two_part : Op → Part → Part → Part
two_part op (Valued x) (Valued y) = Valued (expr.Two op x y)
two_part op _ _ = Lacking

abbrev pub minus_part : Part → Part
minus_part (Valued x) = Valued (expr.Minus x)
minus_part _ = Lacking

abbrev pub element_part : ℕ → Part → Part
element_part item (Valued x) = Valued (expr.Read (spot.Element item x))
element_part item _ = Lacking

abbrev pub truth_part : Part → Part
truth_part (Valued x) = Tested (cond.Truth x)
truth_part _ = Lacking

abbrev pub compared_part : Rel → Part → Part → Part
compared_part rel (Valued x) (Valued y) = Tested (cond.Compare rel x y)
compared_part rel _ _ = Lacking

abbrev pub not_part : Part → Part
not_part (Tested x) = Tested (cond.Not x)
not_part _ = Lacking

abbrev pub and_part : Part → Part → Part
and_part (Tested x) (Tested y) = Tested (cond.And x y)
and_part _ _ = Lacking

abbrev pub or_part : Part → Part → Part
or_part (Tested x) (Tested y) = Tested (cond.Or x y)
or_part _ _ = Lacking

-- AND or OR of two parts
abbrev pub joined_part : Junction → Part → Part → Part
joined_part junction.And left right = and_part left right
joined_part junction.Or left right = or_part left right

-- the parts after a step
abbrev pub parts_after : Instruction → PartStack → PartStack
parts_after (step.Load o) s = record { top = Valued (operand_expr o); below = s.top ∷ s.below }
parts_after (step.With op o) s = record s { top = two_part op s.top (Valued (operand_expr o)) }
parts_after (step.Two op) s = record { top = two_part op (first_part s.below) s.top; below = drop 1 s.below }
parts_after step.Minus s = record s { top = minus_part s.top }
parts_after (step.Element item) s = record s { top = element_part item s.top }
parts_after step.Truth s = record s { top = truth_part s.top }
parts_after (step.CompareWith rel o) s = record s { top = compared_part rel s.top (Valued (operand_expr o)) }
parts_after (step.Compare rel) s = record { top = compared_part rel (first_part s.below) s.top; below = drop 1 s.below }
parts_after step.Not s = record s { top = not_part s.top }
parts_after step.And s = record { top = and_part (first_part s.below) s.top; below = drop 1 s.below }
parts_after step.Or s = record { top = or_part (first_part s.below) s.top; below = drop 1 s.below }

-- the parts after steps, one after the other
abbrev pub parts_after_all : List Instruction → PartStack → PartStack
parts_after_all [] s = s
parts_after_all (step ∷ steps) s = parts_after_all steps (parts_after step s)

-- the parts that code makes from its beginning
abbrev pub built : List Instruction → PartStack
built steps = parts_after_all steps nothing

-- a part on top of others
abbrev pub with_part : Part → PartStack → PartStack
with_part part s = record { top = part; below = s.top ∷ s.below }

-- the expression that a part is
abbrev pub expr_in : Part → Expr
expr_in (Valued e) = e
expr_in _ = expr.Number (pos 0)

-- the condition that a part is
abbrev pub cond_in : Part → Cond
cond_in (Tested c) = c
cond_in _ = cond.Truth (expr.Number (pos 0))

-- a word is that of a part
abbrev pub Shows : Memory → Part → Option ℤ → Type 0
Shows m Lacking word = Unit {0}
Shows m (Valued e) word = word ≡ value_of m e
Shows m (Tested c) word = word ≡ option_map as_word (truth_of m c)

-- A chain of operators as its first operand and what stands after it. The last part of a list is the one that comes
-- first after the operand.
use Rattle.std.specs.Prelude.{Bool, Option, List, [], ◌∷◌}
use Rattle.tal_tree.specs.declared.expression.Expr.{Expr}
use Rattle.tal_tree.specs.declared.expression.Expr.TheVariants as expr
use Rattle.tal_tree.specs.declared.expression.Cond.{Cond}
use Rattle.tal_tree.specs.declared.expression.Cond.TheVariants as cond
use Rattle.tal_values.specs.declared.chain.Operand.{Operand}
use Rattle.tal_values.specs.declared.chain.Operand.TheVariants as operand
use Rattle.tal_values.specs.declared.chain.Tail.{Tail}
use Rattle.tal_values.specs.declared.chain.Test.{Test}
use Rattle.tal_values.specs.declared.chain.Test.TheVariants as test
use Rattle.tal_values.specs.declared.chain.Junction.{Junction}
use Rattle.tal_values.specs.declared.chain.Junction.TheVariants as junction
use Rattle.tal_values.specs.declared.chain.Link.{Link}
use Rattle.tal_values.specs.Value.{and_of, or_of}

-- the expression that an operand stands for
abbrev pub expr_of : Operand → Expr
expr_of (operand.Number n) = expr.Number n
expr_of (operand.Read spot) = expr.Read spot.now
expr_of (operand.Minus inner) = expr.Minus inner.now

-- the expression that operators after an expression make of it
abbrev pub with_tails : Expr → List Tail → Expr
with_tails first [] = first
with_tails first (tail ∷ tails) = expr.Two tail.op (with_tails first tails) tail.right.now

-- the condition that a test stands for
abbrev pub cond_of : Test → Cond
cond_of (test.Truth value) = cond.Truth value.now
cond_of (test.Compare rel left right) = cond.Compare rel left.now right.now
cond_of (test.Not inner) = cond.Not inner.now

-- the condition that AND or OR makes of two
abbrev pub joined : Junction → Cond → Cond → Cond
joined junction.And left right = cond.And left right
joined junction.Or left right = cond.Or left right

-- the truth that AND or OR makes of two
abbrev pub joined_truth : Junction → Option Bool → Option Bool → Option Bool
joined_truth junction.And left right = and_of left right
joined_truth junction.Or left right = or_of left right

-- the condition that AND and OR after a condition make of it
abbrev pub with_links : Cond → List Link → Cond
with_links first [] = first
with_links first (link ∷ links) = joined link.junction (with_links first links) link.right.now

-- An expression and a condition by the outermost layer.
use Rattle.std.proofs.Common.{sym, subst}
use Rattle.std.specs.Prelude.{ℤ}
use Rattle.tal_tree.specs.declared.expression.Op.{Op}
use Rattle.tal_tree.specs.declared.expression.Cond.{Cond, Truth, Compare, Not, And, Or, Cond-F, out-Cond, roll-Cond}
use Rattle.tal_tree.specs.declared.expression.Cond.{roll-out-Cond}
use Rattle.tal_tree.specs.declared.expression.Cond.TheVariants.{rolls-Truth, rolls-Compare, rolls-Not, rolls-And}
use Rattle.tal_tree.specs.declared.expression.Cond.TheVariants.{rolls-Or}
use Rattle.tal_tree.specs.declared.expression.Rel.{Rel}
use Rattle.tal_tree.specs.declared.expression.Spot.{Spot}
use Rattle.tal_tree.specs.declared.expression.Expr.{Expr, Number, Read, Minus, Two, Expr-F, out-Expr, roll-Expr}
use Rattle.tal_tree.specs.declared.expression.Expr.{roll-out-Expr}
use Rattle.tal_tree.specs.declared.expression.Expr.TheVariants.{rolls-Number, rolls-Read, rolls-Minus, rolls-Two}

pub data View : Expr → Type 0 where
  is_number : (n : ℤ) → View (Number n)
  is_read : (spot : Spot) → View (Read spot)
  is_minus : (inner : Expr) → View (Minus inner)
  is_two : (o : Op) (left right : Expr) → View (Two o left right)

by_layer : (x : Expr-F Expr Spot) → View (roll-Expr x)
by_layer (Expr-F.Number n) = subst View (sym (rolls-Number n)) (is_number n)
by_layer (Expr-F.Read spot) = subst View (sym (rolls-Read spot)) (is_read spot)
by_layer (Expr-F.Minus inner) = subst View (sym (rolls-Minus inner)) (is_minus inner)
by_layer (Expr-F.Two o left right) = subst View (sym (rolls-Two o left right)) (is_two o left right)

pub view : (e : Expr) → View e
view e = subst View (roll-out-Expr e) (by_layer (out-Expr e))

pub data TestView : Cond → Type 0 where
  is_truth : (e : Expr) → TestView (Truth e)
  is_compare : (o : Rel) (left right : Expr) → TestView (Compare o left right)
  is_not : (inner : Cond) → TestView (Not inner)
  is_and : (left right : Cond) → TestView (And left right)
  is_or : (left right : Cond) → TestView (Or left right)

test_layer : (x : Cond-F Cond) → TestView (roll-Cond x)
test_layer (Cond-F.Truth e) = subst TestView (sym (rolls-Truth e)) (is_truth e)
test_layer (Cond-F.Compare o left right) = subst TestView (sym (rolls-Compare o left right)) (is_compare o left right)
test_layer (Cond-F.Not inner) = subst TestView (sym (rolls-Not inner)) (is_not inner)
test_layer (Cond-F.And left right) = subst TestView (sym (rolls-And left right)) (is_and left right)
test_layer (Cond-F.Or left right) = subst TestView (sym (rolls-Or left right)) (is_or left right)

pub test_view : (c : Cond) → TestView c
test_view c = subst TestView (roll-out-Cond c) (test_layer (out-Cond c))

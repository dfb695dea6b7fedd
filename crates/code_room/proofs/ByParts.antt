-- Induction over expressions and conditions: what holds of each where it holds of its parts holds of all.
use Rattle.tal_tree.specs.Rows.{read-is, minus-is, two-is, not-is, and-is, or-is}
use Rattle.tal_tree.specs.declared.expression.Op.{Op}
use Rattle.tal_tree.specs.declared.expression.Rel.{Rel}
use Rattle.tal_tree.specs.declared.expression.Cond.{Cond, Truth, Compare, Not, And, Or, Not', And', Or', end_of-Cond}
use Rattle.tal_tree.specs.declared.expression.Cond.{more_of-Cond}
use Rattle.tal_tree.specs.declared.expression.Expr.{Expr, Number, Read, Minus, Two, Read', Minus', Two', end_of-Spot}
use Rattle.tal_tree.specs.declared.expression.Expr.{more_of-Spot, end_of-Expr, more_of-Expr}
use Rattle.tal_tree.specs.declared.expression.Spot.{Spot, Local, Simple, Element}
use Rattle.std.specs.Prelude.{ℤ, ℕ}
use mathlib.Core.Path.{subst}

pub record IsByParts (P : Expr → Type 0) : Type 0 where
  pub number : (n : ℤ) → P (Number n)
  pub local : (place : ℕ) → P (Read (Local place))
  pub simple : (item : ℕ) → P (Read (Simple item))
  pub element : (item : ℕ) (index : Expr) → P index → P (Read (Element item index))
  pub minus : (inner : Expr) → P inner → P (Minus inner)
  pub two : (op : Op) (left right : Expr) → P left → P right → P (Two op left right)

module _ (P : Expr → Type 0) (parts : IsByParts P) where
  mutual
    pub by_parts : (e : Expr) → P e
    by_parts (Number n) = parts.number n
    by_parts (Read' _ (more_of-Spot spot end_of-Spot)) = subst P (read-is spot) (by_spot spot)
    by_parts (Minus' _ (more_of-Expr inner end_of-Expr)) = subst P (minus-is inner) (parts.minus inner (by_parts inner))
    by_parts (Two' op _ (more_of-Expr left end_of-Expr) _ (more_of-Expr right end_of-Expr)) =
        subst P (two-is op left right) (parts.two op left right (by_parts left) (by_parts right))

    by_spot : (spot : Spot) → P (Read spot)
    by_spot (Local place) = parts.local place
    by_spot (Simple item) = parts.simple item
    by_spot (Element item index) = parts.element item index (by_parts index)

pub record IsByTestParts (P : Cond → Type 0) : Type 0 where
  pub truth : (value : Expr) → P (Truth value)
  pub compare : (rel : Rel) (left right : Expr) → P (Compare rel left right)
  pub not : (inner : Cond) → P inner → P (Not inner)
  pub and : (left right : Cond) → P left → P right → P (And left right)
  pub or : (left right : Cond) → P left → P right → P (Or left right)

module _ (P : Cond → Type 0) (parts : IsByTestParts P) where
  pub by_test_parts : (c : Cond) → P c
  by_test_parts (Truth value) = parts.truth value
  by_test_parts (Compare rel left right) = parts.compare rel left right
  by_test_parts (Not' _ (more_of-Cond inner end_of-Cond)) =
      subst P (not-is inner) (parts.not inner (by_test_parts inner))
  by_test_parts (And' _ (more_of-Cond left end_of-Cond) _ (more_of-Cond right end_of-Cond)) =
      subst P (and-is left right) (parts.and left right (by_test_parts left) (by_test_parts right))
  by_test_parts (Or' _ (more_of-Cond left end_of-Cond) _ (more_of-Cond right end_of-Cond)) =
      subst P (or-is left right) (parts.or left right (by_test_parts left) (by_test_parts right))

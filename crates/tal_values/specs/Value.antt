-- The value of an expression and the truth of a condition. None is a trap: a zero divisor, or an index out of the
-- bounds of its array.
use Rattle.std.specs.Prelude.{ℕ, ℤ, pos, ◌+ℤ◌, ◌-ℤ◌, ◌*ℤ◌, neg_ℤ, int_lt, int_le, Bool, true, false, not, ◌&&◌}
use Rattle.std.specs.Prelude.{unsigned_abs, List, Option, Some, None, slice_get, option_map, option_and_then}
use Rattle.std.specs.Prelude.{if◌then◌else◌}
use Rattle.std.specs.Ordering.{int_eq}
use Rattle.tal_tree.specs.gd_words.specs.Arithmetic.{wrap, quotient}
use Rattle.tal_tree.specs.declared.program.Item.{Item}
use Rattle.tal_tree.specs.declared.program.Shape.{Shape}
use Rattle.tal_tree.specs.declared.program.Shape.TheVariants.{Array}
use Rattle.tal_tree.specs.declared.expression.Op.{Op}
use Rattle.tal_tree.specs.declared.expression.Op.TheVariants.{Add, Sub, Mul, Div}
use Rattle.tal_tree.specs.declared.expression.Rel.{Rel}
use Rattle.tal_tree.specs.declared.expression.Rel.TheVariants.{Equal, Differs, Less, AtMost, Greater, AtLeast}
use Rattle.tal_tree.specs.declared.expression.Spot.{Spot, Local, Simple, Element}
use Rattle.tal_tree.specs.declared.expression.Expr.{Expr, Number, Read', Minus', Two', Row_of-Spot, end_of-Spot}
use Rattle.tal_tree.specs.declared.expression.Expr.{more_of-Spot, Row_of-Expr, end_of-Expr, more_of-Expr}
use Rattle.tal_tree.specs.declared.expression.Cond.{Cond, Truth, Compare, Not', And', Or', Row_of-Cond, end_of-Cond}
use Rattle.tal_tree.specs.declared.expression.Cond.{more_of-Cond}
use Rattle.tal_values.specs.declared.memory.Cell.{Cell}
use Rattle.tal_values.specs.declared.memory.Cell.TheVariants as cell

-- what expressions read: the program's items, the words of each item, and the words of the running procedure's locals
pub record Memory : Type 0 where
  pub items : List Item
  pub globals : List (List ℤ)
  pub locals : List ℤ

-- the place of an element in its array's list: how far its index lies above the low bound; none outside the bounds, or
-- where there is no array
abbrev pub place_in : Shape → ℤ → Option ℕ
place_in (Array low high) index =
    if int_le low index && int_le index high then Some (unsigned_abs (index -ℤ low)) else None
place_in _ index = None

-- the place of an element of an item
abbrev pub place_of : Memory → ℕ → ℤ → Option ℕ
place_of m item index = option_and_then (λ i. place_in i.shape index) (slice_get m.items item)

-- the word of a cell
abbrev pub word_at : Memory → Cell → Option ℤ
word_at m (cell.Local k) = slice_get m.locals k
word_at m (cell.Global item offset) = option_and_then (λ words. slice_get words offset) (slice_get m.globals item)

-- what two sides together give; the trap of either is the trap of both
abbrev pub both : {A B : Type 0} → (A → A → Option B) → Option A → Option A → Option B
both f None second = None
both f (Some x) None = None
both f (Some x) (Some y) = f x y

-- what an operator gives, wrapped
abbrev pub result_of : Op → ℤ → ℤ → Option ℤ
result_of Add x y = Some (wrap (x +ℤ y))
result_of Sub x y = Some (wrap (x -ℤ y))
result_of Mul x y = Some (wrap (x *ℤ y))
result_of Div x y = quotient x y

-- The value of an expression, and the cell that a spot names: an item's one word is at place 0, an element where its
-- index has it.
abbrev mutual
  pub value_of : Memory → Expr → Option ℤ
  value_of m (Number n) = Some n
  value_of m (Read' _ row) = spot_in m row
  value_of m (Minus' _ row) = option_map (λ x. wrap (neg_ℤ x)) (value_in m row)
  value_of m (Two' op _ first _ second) = both (result_of op) (value_in m first) (value_in m second)

  pub cell_of : Memory → Spot → Option Cell
  cell_of m (Local k) = Some (cell.Local k)
  cell_of m (Simple item) = Some (cell.Global item 0)
  cell_of m (Element item index) = option_map (cell.Global item) (option_and_then (place_of m item) (value_of m index))

  -- a box's one child: an empty row stands in no tree
  pub spot_in : {n : _} → Memory → Row_of-Spot n → Option ℤ
  spot_in m end_of-Spot = None
  spot_in m (more_of-Spot spot _) = option_and_then (word_at m) (cell_of m spot)

  pub value_in : {n : _} → Memory → Row_of-Expr n → Option ℤ
  value_in m end_of-Expr = None
  value_in m (more_of-Expr expr _) = value_of m expr

-- whether a relation holds of two words
abbrev pub holds : Rel → ℤ → ℤ → Bool
holds Equal x y = int_eq x y
holds Differs x y = not (int_eq x y)
holds Less x y = int_lt x y
holds AtMost x y = int_le x y
holds Greater x y = int_lt y x
holds AtLeast x y = int_le y x

-- AND looks at its right side only where the left one is true
abbrev pub and_of : Option Bool → Option Bool → Option Bool
and_of None second = None
and_of (Some false) second = Some false
and_of (Some true) second = second

-- OR looks at its right side only where the left one is false
abbrev pub or_of : Option Bool → Option Bool → Option Bool
or_of None second = None
or_of (Some true) second = Some true
or_of (Some false) second = second

-- the truth of a condition; a value is true where it is not 0
abbrev mutual
  pub truth_of : Memory → Cond → Option Bool
  truth_of m (Truth expr) = option_map (λ x. not (int_eq x (pos 0))) (value_of m expr)
  truth_of m (Compare rel left right) = both (λ x y. Some (holds rel x y)) (value_of m left) (value_of m right)
  truth_of m (Not' _ row) = option_map not (truth_in m row)
  truth_of m (And' _ first _ second) = and_of (truth_in m first) (truth_in m second)
  truth_of m (Or' _ first _ second) = or_of (truth_in m first) (truth_in m second)

  pub truth_in : {n : _} → Memory → Row_of-Cond n → Option Bool
  truth_in m end_of-Cond = None
  truth_in m (more_of-Cond test _) = truth_of m test

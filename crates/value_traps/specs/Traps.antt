-- The value of an expression and the truth of a condition, or the trap that is met first where they are worked out from
-- the left to the right. tal_values says what a value is; here it is said why there may be none.
use Rattle.std.specs.Option.{ok_or}
use Rattle.std.specs.Ordering.{int_eq}
use Rattle.std.specs.Prelude.{ℕ, ℤ, pos, neg_ℤ, Bool, true, false, not, Option, Some, None, slice_get, Result, Ok, Err}
use Rattle.std.specs.Result.{result_err}
use Rattle.tal_tree.specs.gd_words.specs.Arithmetic.{wrap}
use Rattle.tal_tree.specs.declared.expression.Cond.{Cond, Truth, Compare, Not', And', Or', Row_of-Cond}
use Rattle.tal_tree.specs.declared.expression.Cond.{end_of-Cond, more_of-Cond}
use Rattle.tal_tree.specs.declared.expression.Expr.{Expr, Number, Read', Minus', Two', Row_of-Spot}
use Rattle.tal_tree.specs.declared.expression.Expr.{end_of-Spot, more_of-Spot, Row_of-Expr}
use Rattle.tal_tree.specs.declared.expression.Expr.{end_of-Expr, more_of-Expr}
use Rattle.tal_tree.specs.declared.expression.Op.{Op}
use Rattle.tal_tree.specs.declared.expression.Spot.{Spot, Local, Simple, Element}
use Rattle.tal_tree.specs.declared.program.Item.{Item}
use Rattle.tal_tree.specs.declared.program.Shape.{Shape}
use Rattle.tal_tree.specs.declared.program.Shape.TheVariants as shape
use Rattle.tal_values.specs.Value.{Memory, holds, place_in, result_of, word_at}
use Rattle.tal_values.specs.declared.memory.Cell.{Cell}
use Rattle.tal_values.specs.declared.memory.Cell.TheVariants as cell
use Rattle.value_traps.specs.declared.trap.ValueTrap.{ValueTrap}
use Rattle.value_traps.specs.declared.trap.ValueTrap.TheVariants.{ZeroDivisor, Index, NotThere}

-- what is worked out, or the first trap on the way
abbrev pub Worked : Type 0 → Type 0
Worked A = Result A ValueTrap

-- what is made of something, if it is there
abbrev pub made : {A B : Type 0} → (A → B) → Worked A → Worked B
made f (Err trap) = Err trap
made f (Ok x) = Ok (f x)

-- what is worked out of something, if it is there
abbrev pub worked_on : {A B : Type 0} → (A → Worked B) → Worked A → Worked B
worked_on f (Err trap) = Err trap
worked_on f (Ok x) = f x

-- what is worked out of two sides: the trap of the left one comes first
abbrev pub of_both : {A B : Type 0} → (A → A → Worked B) → Worked A → Worked A → Worked B
of_both f (Err trap) second = Err trap
of_both f (Ok x) (Err trap) = Err trap
of_both f (Ok x) (Ok y) = f x y

-- what an operator gives: only a quotient may lack, if its divisor is 0
abbrev pub quotient_or_trap : Op → ℤ → ℤ → Worked ℤ
quotient_or_trap op x y = ok_or (result_of op x y) ZeroDivisor

-- the place of an element in an array: only within its bounds there is one
abbrev pub place_or_trap : Shape → ℤ → Worked ℕ
place_or_trap (shape.Array low high) index = ok_or (place_in (shape.Array low high) index) (Index index low high)
place_or_trap shape.Simple index = Err NotThere
place_or_trap (shape.File target) index = Err NotThere

abbrev pub place_at : Option Item → ℤ → Worked ℕ
place_at None index = Err NotThere
place_at (Some item) index = place_or_trap item.shape index

-- the place of an element of an item
abbrev pub place_worked : Memory → ℕ → ℤ → Worked ℕ
place_worked m item index = place_at (slice_get m.items item) index

-- the word of a cell
abbrev pub word_or_trap : Memory → Cell → Worked ℤ
word_or_trap m cell = ok_or (word_at m cell) NotThere

abbrev mutual
  pub value_or_trap : Memory → Expr → Worked ℤ
  value_or_trap m (Number n) = Ok n
  value_or_trap m (Read' _ row) = spot_in m row
  value_or_trap m (Minus' _ row) = made (λ x. wrap (neg_ℤ x)) (value_in m row)
  value_or_trap m (Two' op _ first _ second) = of_both (quotient_or_trap op) (value_in m first) (value_in m second)

  -- the cell that a spot names
  pub cell_or_trap : Memory → Spot → Worked Cell
  cell_or_trap m (Local k) = Ok (cell.Local k)
  cell_or_trap m (Simple item) = Ok (cell.Global item 0)
  cell_or_trap m (Element item index) =
      made (cell.Global item) (worked_on (place_worked m item) (value_or_trap m index))

  -- a box's one child: an empty row stands in no tree
  pub spot_in : {n : _} → Memory → Row_of-Spot n → Worked ℤ
  spot_in m end_of-Spot = Err NotThere
  spot_in m (more_of-Spot spot _) = worked_on (word_or_trap m) (cell_or_trap m spot)

  pub value_in : {n : _} → Memory → Row_of-Expr n → Worked ℤ
  value_in m end_of-Expr = Err NotThere
  value_in m (more_of-Expr expr _) = value_or_trap m expr

-- AND looks at its right side only if the left one is true
abbrev pub and_or_trap : Worked Bool → Worked Bool → Worked Bool
and_or_trap (Err trap) second = Err trap
and_or_trap (Ok false) second = Ok false
and_or_trap (Ok true) second = second

-- OR looks at its right side only if the left one is false
abbrev pub or_or_trap : Worked Bool → Worked Bool → Worked Bool
or_or_trap (Err trap) second = Err trap
or_or_trap (Ok true) second = Ok true
or_or_trap (Ok false) second = second

abbrev mutual
  pub truth_or_trap : Memory → Cond → Worked Bool
  truth_or_trap m (Truth expr) = made (λ x. not (int_eq x (pos 0))) (value_or_trap m expr)
  truth_or_trap m (Compare rel left right) =
      of_both (λ x y. Ok (holds rel x y)) (value_or_trap m left) (value_or_trap m right)
  truth_or_trap m (Not' _ row) = made not (truth_in m row)
  truth_or_trap m (And' _ first _ second) = and_or_trap (truth_in m first) (truth_in m second)
  truth_or_trap m (Or' _ first _ second) = or_or_trap (truth_in m first) (truth_in m second)

  pub truth_in : {n : _} → Memory → Row_of-Cond n → Worked Bool
  truth_in m end_of-Cond = Err NotThere
  truth_in m (more_of-Cond test _) = truth_or_trap m test

-- the trap of an expression, if it has no value
abbrev pub trap_of : Memory → Expr → Option ValueTrap
trap_of m expr = result_err (value_or_trap m expr)

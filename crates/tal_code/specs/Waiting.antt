-- How many left sides wait at most, at one time, for their right sides, while something is computed from left to right.
-- That numbers and simple variables are taken at once, and that AND and OR compute both sides, are our own rules of
-- flat code.
use Rattle.std.specs.Prelude.{ℕ, ◌+◌, ◌<◌, ◌≡◌, max, Bool, true, false, List, [], ◌∷◌, Option, Some, None, slice_get}
use Rattle.gd_words.specs.Members.{IsAmong}
use Rattle.tal_tree.specs.declared.expression.Cond.{Cond, Truth, Compare, Not', And', Or', Row_of-Cond, end_of-Cond}
use Rattle.tal_tree.specs.declared.expression.Cond.{more_of-Cond}
use Rattle.tal_tree.specs.declared.expression.Expr.{Expr, Number, Read', Minus', Two', Row_of-Spot, end_of-Spot}
use Rattle.tal_tree.specs.declared.expression.Expr.{more_of-Spot, Row_of-Expr, end_of-Expr, more_of-Expr}
use Rattle.tal_tree.specs.declared.expression.Spot.{Spot, Local, Simple, Element}
use Rattle.tal_tree.specs.declared.program.Procedure.{Procedure}
use Rattle.tal_tree.specs.declared.program.Program.{Program}
use Rattle.tal_tree.specs.declared.statement.Statement.{Statement}
use Rattle.tal_tree.specs.declared.statement.What.{What, What-F, out-What}
use Rattle.tal_tree.specs.Statements.{all_of}

-- whether a spot is a simple variable
abbrev pub is_variable : Spot → Bool
is_variable (Local place) = true
is_variable (Simple item) = true
is_variable (Element item index) = false

abbrev pub is_variable_in : {n : _} → Row_of-Spot n → Bool
is_variable_in end_of-Spot = false
is_variable_in (more_of-Spot spot _) = is_variable spot

-- whether an expression is a number or a simple variable, for which no left side waits
abbrev pub is_ready : Expr → Bool
is_ready (Number n) = true
is_ready (Read' _ row) = is_variable_in row
is_ready (Minus' _ row) = false
is_ready (Two' op _ left _ right) = false

-- one more waits for a right side that isn't ready, all the while that it is computed
abbrev pub one_more : Bool → ℕ → ℕ
one_more true waiting = waiting
one_more false waiting = waiting + 1

abbrev mutual
  -- while an expression is computed
  pub waiting_of : Expr → ℕ
  waiting_of (Number n) = 0
  waiting_of (Read' _ row) = waiting_in_spot row
  waiting_of (Minus' _ row) = waiting_in row
  waiting_of (Two' op _ left _ right) = max (waiting_in left) (waiting_beside right)

  -- while the index of a spot is
  pub waiting_of_spot : Spot → ℕ
  waiting_of_spot (Local place) = 0
  waiting_of_spot (Simple item) = 0
  waiting_of_spot (Element item index) = waiting_of index

  pub waiting_in_spot : {n : _} → Row_of-Spot n → ℕ
  waiting_in_spot end_of-Spot = 0
  waiting_in_spot (more_of-Spot spot _) = waiting_of_spot spot

  pub waiting_in : {n : _} → Row_of-Expr n → ℕ
  waiting_in end_of-Expr = 0
  waiting_in (more_of-Expr expr _) = waiting_of expr

  pub waiting_beside : {n : _} → Row_of-Expr n → ℕ
  waiting_beside end_of-Expr = 0
  waiting_beside (more_of-Expr right _) = one_more (is_ready right) (waiting_of right)

-- while an expression is computed as the right side of another
abbrev pub waiting_for : Expr → ℕ
waiting_for right = one_more (is_ready right) (waiting_of right)

abbrev mutual
  -- while a condition is computed, of which AND and OR compute both sides
  pub waiting_of_test : Cond → ℕ
  waiting_of_test (Truth value) = waiting_of value
  waiting_of_test (Compare rel left right) = max (waiting_of left) (waiting_for right)
  waiting_of_test (Not' _ row) = waiting_in_test row
  waiting_of_test (And' _ left _ right) = max (waiting_in_test left) (waiting_in_test right + 1)
  waiting_of_test (Or' _ left _ right) = max (waiting_in_test left) (waiting_in_test right + 1)

  pub waiting_in_test : {n : _} → Row_of-Cond n → ℕ
  waiting_in_test end_of-Cond = 0
  waiting_in_test (more_of-Cond test _) = waiting_of_test test

-- while these are computed, one after the other
abbrev pub waiting_of_all : List Expr → ℕ
waiting_of_all [] = 0
waiting_of_all (value ∷ rest) = max (waiting_of value) (waiting_of_all rest)

abbrev pub waiting_of_answer : Option Expr → ℕ
waiting_of_answer None = 0
waiting_of_answer (Some value) = waiting_of value

-- while what a statement itself computes is; the variable of a FOR waits for its limit as a left side does
abbrev pub waiting_at : What-F What Statement → ℕ
waiting_at (What-F.Assign to value) = max (waiting_of_spot to) (waiting_of value)
waiting_at (What-F.AssignCall to procedure arguments) = max (waiting_of_spot to) (waiting_of_all arguments)
waiting_at (What-F.If test first second) = waiting_of_test test
waiting_at (What-F.While test body) = waiting_of_test test
waiting_at (What-F.For variable from to down step body last) = max (waiting_of from) (waiting_for to)
waiting_at (What-F.DoUntil body test) = waiting_of_test test
waiting_at (What-F.Call procedure arguments) = waiting_of_all arguments
waiting_at (What-F.Return value) = waiting_of_answer value
waiting_at (What-F.ReadUpdate buffer most got) = waiting_of most
waiting_at (What-F.Reply buffer count) = waiting_of count
waiting_at (What-F.WriteRead file buffer send room got) = max (waiting_of send) (waiting_of room)
waiting_at (What-F.Checkpoint items files) = 0
waiting_at What-F.CheckMonitor = 0
waiting_at (What-F.Open file) = 0
waiting_at What-F.Stop = 0

-- fewer than so many left sides wait at one time while any statement of a program, at any level, computes what it does
abbrev pub WaitsBelow : ℕ → Program → Type 0
WaitsBelow most program = (k : ℕ) (procedure : Procedure) → slice_get program.procedures k ≡ Some procedure
    → (statement : Statement) → IsAmong statement (all_of procedure.body) → waiting_at (out-What statement.what) < most

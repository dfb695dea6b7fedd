-- How much work the parts of a tree are, where each piece is one.
use Rattle.std.specs.Prelude.{ℕ, ◌+◌, List, [], ◌∷◌, Option, Some, None}
use Rattle.tal_tree.specs.declared.expression.Spot.{Spot, Local, Simple, Element}
use Rattle.tal_tree.specs.declared.expression.Expr.{Expr, Number, Read', Minus', Two', Row_of-Spot, end_of-Spot}
use Rattle.tal_tree.specs.declared.expression.Expr.{more_of-Spot, Row_of-Expr, end_of-Expr, more_of-Expr}
use Rattle.tal_tree.specs.declared.expression.Cond.{Cond, Truth, Compare, Not', And', Or', Row_of-Cond, end_of-Cond}
use Rattle.tal_tree.specs.declared.expression.Cond.{more_of-Cond}
use Rattle.tal_tree.specs.declared.program.Item.{Item}
use Rattle.tal_tree.specs.declared.program.Procedure.{Procedure}
use Rattle.tal_tree.specs.declared.statement.Statement.{Statement}
use Rattle.tal_tree.specs.declared.statement.What.{What, Assign, AssignCall, If', While', For', DoUntil', Call}
use Rattle.tal_tree.specs.declared.statement.What.{Return, ReadUpdate, Reply, WriteRead, Checkpoint, CheckMonitor, Open}
use Rattle.tal_tree.specs.declared.statement.What.{Stop, Row_of-Statement, end_of-Statement, more_of-Statement}

abbrev mutual
  pub value_weight : Expr → ℕ
  value_weight (Number n) = 2
  value_weight (Read' _ row) = spot_weight_in row + 1
  value_weight (Minus' _ row) = value_weight_in row + 2
  value_weight (Two' o _ left _ right) = value_weight_in left + value_weight_in right + 4

  pub spot_weight : Spot → ℕ
  spot_weight (Local place) = 2
  spot_weight (Simple item) = 2
  spot_weight (Element item index) = value_weight index + 4

  pub spot_weight_in : {n : _} → Row_of-Spot n → ℕ
  spot_weight_in end_of-Spot = 0
  spot_weight_in (more_of-Spot spot _) = spot_weight spot

  pub value_weight_in : {n : _} → Row_of-Expr n → ℕ
  value_weight_in end_of-Expr = 0
  value_weight_in (more_of-Expr expr _) = value_weight expr

abbrev mutual
  pub test_weight : Cond → ℕ
  test_weight (Truth expr) = value_weight expr + 1
  test_weight (Compare o left right) = value_weight left + value_weight right + 2
  test_weight (Not' _ row) = test_weight_in row + 2
  test_weight (And' _ left _ right) = test_weight_in left + test_weight_in right + 4
  test_weight (Or' _ left _ right) = test_weight_in left + test_weight_in right + 4

  pub test_weight_in : {n : _} → Row_of-Cond n → ℕ
  test_weight_in end_of-Cond = 0
  test_weight_in (more_of-Cond cond _) = test_weight cond

abbrev pub values_weight : List Expr → ℕ
values_weight [] = 1
values_weight (expr ∷ rest) = value_weight expr + values_weight rest + 2

-- names of a list, each with its comma
abbrev pub list_weight : {A : Type 0} → List A → ℕ
list_weight [] = 1
list_weight (x ∷ rest) = list_weight rest + 4

abbrev pub answer_weight : Option Expr → ℕ
answer_weight None = 0
answer_weight (Some expr) = value_weight expr

abbrev mutual
  pub what_weight : What → ℕ
  what_weight (Assign to expr) = spot_weight to + value_weight expr + 2
  what_weight (AssignCall to number values) = spot_weight to + values_weight values + 8
  what_weight (If' test _ first _ second) = test_weight test + row_weight first + row_weight second + 10
  what_weight (While' test _ body) = test_weight test + row_weight body + 6
  what_weight (For' counter from to down step _ body last) =
      value_weight from + value_weight to + row_weight body + 12
  what_weight (DoUntil' _ body test) = test_weight test + row_weight body + 6
  what_weight (Call number values) = values_weight values + 8
  what_weight (Return given) = answer_weight given + 2
  what_weight (ReadUpdate buffer most got) = value_weight most + 20
  what_weight (Reply buffer count) = value_weight count + 20
  what_weight (WriteRead file buffer send room got) = value_weight send + value_weight room + 20
  what_weight (Checkpoint items files) = list_weight items + list_weight files + 20
  what_weight CheckMonitor = 20
  what_weight (Open file) = 20
  what_weight Stop = 20

  pub row_weight : {n : _} → Row_of-Statement n → ℕ
  row_weight end_of-Statement = 1
  row_weight (more_of-Statement _ _ what rest) = what_weight what + row_weight rest + 2

abbrev pub statements_weight : List Statement → ℕ
statements_weight [] = 1
statements_weight (s ∷ rest) = what_weight s.what + statements_weight rest + 2

abbrev pub procedure_weight : Procedure → ℕ
procedure_weight q = list_weight q.locals + list_weight q.locals + list_weight q.locals + statements_weight q.body + 30

abbrev pub items_weight : List Item → ℕ
items_weight [] = 1
items_weight (i ∷ rest) = items_weight rest + 10

abbrev pub procedures_weight : List Procedure → ℕ
procedures_weight [] = 1
procedures_weight (q ∷ rest) = procedure_weight q + procedures_weight rest

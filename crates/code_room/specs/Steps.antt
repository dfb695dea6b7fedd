-- The steps of flat code that compute an expression or a condition.
use Rattle.std.specs.Prelude.{List, [], ◌∷◌, ◌++◌, Option, Some, None}
use Rattle.tal_tree.specs.declared.expression.Cond.{Cond, Truth, Compare, Not', And', Or', Row_of-Cond, end_of-Cond}
use Rattle.tal_tree.specs.declared.expression.Cond.{more_of-Cond}
use Rattle.tal_tree.specs.declared.expression.Expr.{Expr, Number, Read', Minus', Two', Row_of-Spot, end_of-Spot}
use Rattle.tal_tree.specs.declared.expression.Expr.{more_of-Spot, Row_of-Expr, end_of-Expr, more_of-Expr}
use Rattle.tal_tree.specs.declared.expression.Op.{Op}
use Rattle.tal_tree.specs.declared.expression.Rel.{Rel}
use Rattle.tal_tree.specs.declared.expression.Spot.{Spot, Local, Simple, Element}
use Rattle.tal_code.specs.declared.step.Operand.{Operand}
use Rattle.tal_code.specs.declared.step.Operand.TheVariants as operand
use Rattle.tal_code.specs.declared.step.Instruction.{Instruction}
use Rattle.tal_code.specs.declared.step.Instruction.TheVariants as step

-- the operand that an expression is, where it is as simple as that
abbrev pub spot_operand : Spot → Option Operand
spot_operand (Local place) = Some (operand.Local place)
spot_operand (Simple item) = Some (operand.Simple item)
spot_operand (Element item index) = None

abbrev pub spot_operand_in : {n : _} → Row_of-Spot n → Option Operand
spot_operand_in end_of-Spot = None
spot_operand_in (more_of-Spot spot _) = spot_operand spot

abbrev pub operand_of : Expr → Option Operand
operand_of (Number n) = Some (operand.Number n)
operand_of (Read' _ row) = spot_operand_in row
operand_of (Minus' _ row) = None
operand_of (Two' op _ left _ right) = None

-- a right side that is an operand stands in one step, and any other has its own steps before the operator's
abbrev pub two_steps : Op → Option Operand → List Instruction → List Instruction
two_steps op (Some o) right = step.With op o ∷ []
two_steps op None right = right ++ step.Two op ∷ []

abbrev pub compare_steps : Rel → Option Operand → List Instruction → List Instruction
compare_steps rel (Some o) right = step.CompareWith rel o ∷ []
compare_steps rel None right = right ++ step.Compare rel ∷ []

abbrev mutual
  pub steps_of : Expr → List Instruction
  steps_of (Number n) = step.Load (operand.Number n) ∷ []
  steps_of (Read' _ row) = steps_in_spot row
  steps_of (Minus' _ row) = steps_in row ++ step.Minus ∷ []
  steps_of (Two' op _ left _ right) = steps_in left ++ steps_beside op right

  pub steps_of_spot : Spot → List Instruction
  steps_of_spot (Local place) = step.Load (operand.Local place) ∷ []
  steps_of_spot (Simple item) = step.Load (operand.Simple item) ∷ []
  steps_of_spot (Element item index) = steps_of index ++ step.Element item ∷ []

  pub steps_in_spot : {n : _} → Row_of-Spot n → List Instruction
  steps_in_spot end_of-Spot = []
  steps_in_spot (more_of-Spot spot _) = steps_of_spot spot

  pub steps_in : {n : _} → Row_of-Expr n → List Instruction
  steps_in end_of-Expr = []
  steps_in (more_of-Expr expr _) = steps_of expr

  pub steps_beside : {n : _} → Op → Row_of-Expr n → List Instruction
  steps_beside op end_of-Expr = []
  steps_beside op (more_of-Expr right _) = two_steps op (operand_of right) (steps_of right)

abbrev mutual
  pub steps_of_test : Cond → List Instruction
  steps_of_test (Truth value) = steps_of value ++ step.Truth ∷ []
  steps_of_test (Compare rel left right) = steps_of left ++ compare_steps rel (operand_of right) (steps_of right)
  steps_of_test (Not' _ row) = steps_in_test row ++ step.Not ∷ []
  steps_of_test (And' _ left _ right) = steps_in_test left ++ (steps_in_test right ++ step.And ∷ [])
  steps_of_test (Or' _ left _ right) = steps_in_test left ++ (steps_in_test right ++ step.Or ∷ [])

  pub steps_in_test : {n : _} → Row_of-Cond n → List Instruction
  steps_in_test end_of-Cond = []
  steps_in_test (more_of-Cond test _) = steps_of_test test

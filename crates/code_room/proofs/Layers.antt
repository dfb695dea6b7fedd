-- How many wait while one more layer is computed, and the steps of one more layer.
use Rattle.std.proofs.Common.{◌≡◌, ◌+◌, ◌≤◌, arith, Bool, true, false, [], ◌∷◌, ◌++◌, ap}
use Rattle.std.specs.Prelude.{None}
use Rattle.tal_tree.specs.Rows.{read-is, minus-is, two-is, not-is, and-is, or-is}
use Rattle.tal_tree.specs.declared.expression.Op.{Op}
use Rattle.tal_tree.specs.declared.expression.Cond.{Cond, Not, And, Or}
use Rattle.tal_tree.specs.declared.expression.Expr.{Expr, Read, Minus, Two}
use Rattle.tal_tree.specs.declared.expression.Spot.{Spot}
use Rattle.tal_code.specs.declared.step.Instruction.TheVariants as step
use Rattle.tal_code.specs.Waiting.{is_ready, one_more, waiting_of, waiting_for}
use Rattle.code_room.specs.Steps.{spot_operand, operand_of, two_steps, steps_of, steps_of_spot, steps_of_test}

-- for a right side one more waits, or as many as while it is computed alone
pub for-more : (right : Expr) → (waiting_of right ≤ waiting_for right) × (waiting_for right ≤ waiting_of right + 1)
for-more right = by (is_ready right)
  where
    by : (b : Bool) → (waiting_of right ≤ one_more b (waiting_of right))
        × (one_more b (waiting_of right) ≤ waiting_of right + 1)
    by true = (omega arith, omega arith)
    by false = (omega arith, omega arith)

pub operand-read : (spot : Spot) → operand_of (Read spot) ≡ spot_operand spot
operand-read spot = ap operand_of (read-is spot)

pub operand-minus : (inner : Expr) → operand_of (Minus inner) ≡ None
operand-minus inner = ap operand_of (minus-is inner)

pub operand-two : (op : Op) (left right : Expr) → operand_of (Two op left right) ≡ None
operand-two op left right = ap operand_of (two-is op left right)

pub steps-read : (spot : Spot) → steps_of (Read spot) ≡ steps_of_spot spot
steps-read spot = ap steps_of (read-is spot)

pub steps-minus : (inner : Expr) → steps_of (Minus inner) ≡ steps_of inner ++ step.Minus ∷ []
steps-minus inner = ap steps_of (minus-is inner)

pub steps-two : (op : Op) (left right : Expr)
    → steps_of (Two op left right) ≡ steps_of left ++ two_steps op (operand_of right) (steps_of right)
steps-two op left right = ap steps_of (two-is op left right)

pub steps-not : (inner : Cond) → steps_of_test (Not inner) ≡ steps_of_test inner ++ step.Not ∷ []
steps-not inner = ap steps_of_test (not-is inner)

pub steps-and : (left right : Cond) → steps_of_test (And left right)
    ≡ steps_of_test left ++ (steps_of_test right ++ step.And ∷ [])
steps-and left right = ap steps_of_test (and-is left right)

pub steps-or : (left right : Cond) → steps_of_test (Or left right)
    ≡ steps_of_test left ++ (steps_of_test right ++ step.Or ∷ [])
steps-or left right = ap steps_of_test (or-is left right)

-- How many wait in chains of any length, and in right sides in one another.
use Rattle.std.proofs.Common.{◌≡◌, ℕ, zero, suc, arith, refl}
use Rattle.tal_tree.specs.declared.expression.Cond.{Truth}
use Rattle.tal_tree.specs.declared.expression.Expr.{Minus, Two}
use Rattle.tal_tree.specs.declared.expression.Op.TheVariants.{Add, Sub, Mul}
use Rattle.tal_code.specs.Waiting.{waiting_of, waiting_of_test}
use Rattle.code_room.specs.Examples.{one, differences, sum_of_products, nested, chained_tests, nested_tests}
use Rattle.tal_code.proofs.Waits.{for-minus, for-two, waiting-two, waiting-and, waiting-or}

pub differences_wait : (n : ℕ) → waiting_of (differences n) ≡ 0
differences_wait zero = refl
differences_wait (suc n) = omega (arith, differences_wait n, waiting-two Sub (differences n) one)

pub products_wait : (n : ℕ) → waiting_of (sum_of_products (suc n)) ≡ 1
products_wait zero = omega (arith, waiting-two Add one (Two Mul one one), for-two Mul one one)
products_wait (suc n) =
    omega (arith, products_wait n, waiting-two Add (sum_of_products (suc n)) (Two Mul one one), for-two Mul one one)

pub nested_wait : (n : ℕ) → waiting_of (nested n) ≡ n
nested_wait zero = refl
nested_wait (suc n) = omega (arith, nested_wait n, waiting-two Sub one (Minus (nested n)), for-minus (nested n))

pub chained_tests_wait : (n : ℕ) → waiting_of_test (chained_tests (suc n)) ≡ 1
chained_tests_wait zero = omega (arith, waiting-and (Truth one) (Truth one))
chained_tests_wait (suc n) = omega (arith, chained_tests_wait n, waiting-and (chained_tests (suc n)) (Truth one))

pub nested_tests_wait : (n : ℕ) → waiting_of_test (nested_tests n) ≡ n
nested_tests_wait zero = refl
nested_tests_wait (suc n) = omega (arith, nested_tests_wait n, waiting-or (Truth one) (nested_tests n))

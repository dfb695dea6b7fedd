-- How many wait while one more layer is computed, and while the parts of a chain are.
use Rattle.std.proofs.Common.{◌≡◌, ◌+◌, ◌≤◌, arith, List, [], ◌∷◌, ap}
use Rattle.std.specs.Prelude.{max}
use Rattle.tal_tree.specs.Rows.{read-is, minus-is, two-is, not-is, and-is, or-is}
use Rattle.tal_tree.specs.declared.expression.Op.{Op}
use Rattle.tal_tree.specs.declared.expression.Cond.{Cond, Not, And, Or}
use Rattle.tal_tree.specs.declared.expression.Expr.{Expr, Read, Minus, Two}
use Rattle.tal_tree.specs.declared.expression.Spot.{Spot}
use Rattle.tal_values.specs.declared.chain.Tail.{Tail}
use Rattle.tal_values.specs.declared.chain.Link.{Link}
use Rattle.tal_values.specs.declared.chain.Junction.{Junction}
use Rattle.tal_values.specs.declared.chain.Junction.TheVariants as junction
use Rattle.tal_values.specs.Chain.{with_tails, joined, with_links}
use Rattle.tal_code.specs.Waiting.{is_variable, one_more, waiting_of, waiting_of_spot, waiting_for, waiting_of_test}

pub waiting-read : (spot : Spot) → waiting_of (Read spot) ≡ waiting_of_spot spot
waiting-read spot = ap waiting_of (read-is spot)

pub waiting-minus : (inner : Expr) → waiting_of (Minus inner) ≡ waiting_of inner
waiting-minus inner = ap waiting_of (minus-is inner)

pub waiting-two : (op : Op) (left right : Expr)
    → waiting_of (Two op left right) ≡ max (waiting_of left) (waiting_for right)
waiting-two op left right = ap waiting_of (two-is op left right)

pub waiting-not : (inner : Cond) → waiting_of_test (Not inner) ≡ waiting_of_test inner
waiting-not inner = ap waiting_of_test (not-is inner)

pub waiting-and : (left right : Cond) → waiting_of_test (And left right)
    ≡ max (waiting_of_test left) (waiting_of_test right + 1)
waiting-and left right = ap waiting_of_test (and-is left right)

pub waiting-or : (left right : Cond) → waiting_of_test (Or left right)
    ≡ max (waiting_of_test left) (waiting_of_test right + 1)
waiting-or left right = ap waiting_of_test (or-is left right)

pub waiting-joined : (j : Junction) (left right : Cond)
    → waiting_of_test (joined j left right) ≡ max (waiting_of_test left) (waiting_of_test right + 1)
waiting-joined junction.And left right = waiting-and left right
waiting-joined junction.Or left right = waiting-or left right

pub for-read : (spot : Spot) → waiting_for (Read spot) ≡ one_more (is_variable spot) (waiting_of_spot spot)
for-read spot = ap waiting_for (read-is spot)

pub for-minus : (inner : Expr) → waiting_for (Minus inner) ≡ waiting_of inner + 1
for-minus inner = ap waiting_for (minus-is inner)

pub for-two : (op : Op) (left right : Expr)
    → waiting_for (Two op left right) ≡ max (waiting_of left) (waiting_for right) + 1
for-two op left right = ap waiting_for (two-is op left right)

pub first_waits : (first : Expr) (tails : List Tail) → waiting_of first ≤ waiting_of (with_tails first tails)
first_waits first [] = omega arith
first_waits first (tail ∷ tails) =
    omega (arith, first_waits first tails, waiting-two tail.op (with_tails first tails) tail.right.now)

pub first_test_waits : (first : Cond) (links : List Link)
    → waiting_of_test first ≤ waiting_of_test (with_links first links)
first_test_waits first [] = omega arith
first_test_waits first (link ∷ links) =
    omega (arith, first_test_waits first links, waiting-joined link.junction (with_links first links) link.right.now)

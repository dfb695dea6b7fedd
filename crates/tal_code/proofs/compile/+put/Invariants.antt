use Rattle.std.proofs.Common.{◌+◌, ◌*◌, length}
use Rattle.tal_tree.specs.declared.expression.Expr.{size-Expr}
use Rattle.tal_tree.specs.declared.expression.Spot.{size-Spot}
use Rattle.tal_values.specs.Chain.{expr_of}
use Rattle.tal_code.proofs.Growing.{Grows}
use Rattle.tal_code.proofs.compile.+put.Given as goal

abbrev pub decreases-put_expr : goal.decreases-put_expr
decreases-put_expr l = 2 * size-Expr l.expr.now + 1

abbrev pub decreases-put_first : goal.decreases-put_first
decreases-put_first l = 2 * size-Expr (expr_of l.first)

abbrev pub decreases-put_spot : goal.decreases-put_spot
decreases-put_spot l = 2 * size-Spot l.spot.now + 1

abbrev pub decreases-put_tail : goal.decreases-put_tail
decreases-put_tail l = 2 * size-Expr l.tail.right.now + 2

abbrev pub invariant-put_expr-loop-tail : goal.invariant-put_expr-loop-tail
invariant-put_expr-loop-tail l = Grows l.fn.draft l.draft l.tails.items l.fn.expr

abbrev pub decreases-put_expr-loop-tail : goal.decreases-put_expr-loop-tail
decreases-put_expr-loop-tail l = length l.tails.items

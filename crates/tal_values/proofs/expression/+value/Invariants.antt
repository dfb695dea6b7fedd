use Rattle.std.proofs.Common.{◌+◌, ◌*◌, length}
use Rattle.tal_tree.specs.declared.expression.Expr.{size-Expr}
use Rattle.tal_tree.specs.declared.expression.Spot.{size-Spot}
use Rattle.tal_values.specs.Chain.{expr_of}
use Rattle.tal_values.specs.Seen.{memory_now}
use Rattle.tal_values.proofs.ValueSteps.{Climbs}
use Rattle.tal_values.proofs.expression.+value.Given as goal

abbrev pub decreases-cell : goal.decreases-cell
decreases-cell l = 2 * size-Spot l.spot.now + 1

abbrev pub decreases-operand : goal.decreases-operand
decreases-operand l = 2 * size-Expr (expr_of l.first)

abbrev pub decreases-value : goal.decreases-value
decreases-value l = 2 * size-Expr l.expr.now + 1

abbrev pub invariant-value-loop-tail : goal.invariant-value-loop-tail
invariant-value-loop-tail l = Climbs (memory_now l.memory) l.left l.tails.items l.fn.expr

abbrev pub decreases-value-loop-tail : goal.decreases-value-loop-tail
decreases-value-loop-tail l = length l.tails.items

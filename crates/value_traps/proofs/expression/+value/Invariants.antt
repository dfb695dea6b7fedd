use Rattle.std.proofs.Common.{◌+◌, ◌*◌, length}
use Rattle.tal_tree.specs.declared.expression.Expr.{size-Expr}
use Rattle.tal_tree.specs.declared.expression.Spot.{size-Spot}
use Rattle.tal_values.specs.Chain.{expr_of}
use Rattle.tal_values.specs.Seen.{memory_now}
use Rattle.value_traps.proofs.ValueSteps.{Climbs}
use Rattle.value_traps.proofs.expression.+value.Given as goal

abbrev pub decreases-cell_or_trap : goal.decreases-cell_or_trap
decreases-cell_or_trap l = 2 * size-Spot l.spot.now + 1

abbrev pub decreases-operand : goal.decreases-operand
decreases-operand l = 2 * size-Expr (expr_of l.first)

abbrev pub decreases-value_or_trap : goal.decreases-value_or_trap
decreases-value_or_trap l = 2 * size-Expr l.expr.now + 1

abbrev pub invariant-value_or_trap-loop-tail : goal.invariant-value_or_trap-loop-tail
invariant-value_or_trap-loop-tail l = Climbs (memory_now l.memory) l.left l.tails.items l.fn.expr

abbrev pub decreases-value_or_trap-loop-tail : goal.decreases-value_or_trap-loop-tail
decreases-value_or_trap-loop-tail l = length l.tails.items

use Rattle.std.proofs.Common.{◌≤◌}
use Rattle.tal_tree.proofs.expression.Cond.TheLaws.{the_size}
use Rattle.tal_tree.proofs.expression.Cond.+drop.Given as goal

abbrev pub decreases-drop : goal.decreases-drop
decreases-drop l = goal.size-drop l

-- what is left is no larger than the whole
abbrev pub invariant-loop-self : goal.invariant-loop-self
invariant-loop-self l = the_size l.self ≤ the_size l.fn.self

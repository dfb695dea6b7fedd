use Rattle.std.proofs.Common.{◌+◌, ◌*◌, length}
use Rattle.tal_tree.specs.declared.expression.Cond.{size-Cond}
use Rattle.tal_values.specs.Chain.{cond_of}
use Rattle.tal_values.specs.Seen.{memory_now}
use Rattle.value_traps.proofs.TruthSteps.{Climbs}
use Rattle.value_traps.proofs.condition.+truth.Given as goal

abbrev pub decreases-joined : goal.decreases-joined
decreases-joined l = 2 * size-Cond l.link.right.now + 2

abbrev pub decreases-tested : goal.decreases-tested
decreases-tested l = 2 * size-Cond (cond_of l.first)

abbrev pub decreases-truth_or_trap : goal.decreases-truth_or_trap
decreases-truth_or_trap l = 2 * size-Cond l.cond.now + 1

abbrev pub invariant-truth_or_trap-loop-link : goal.invariant-truth_or_trap-loop-link
invariant-truth_or_trap-loop-link l = Climbs (memory_now l.memory) l.left l.links.items l.fn.cond

abbrev pub decreases-truth_or_trap-loop-link : goal.decreases-truth_or_trap-loop-link
decreases-truth_or_trap-loop-link l = length l.links.items

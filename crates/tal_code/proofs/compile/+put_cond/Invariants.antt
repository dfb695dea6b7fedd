use Rattle.std.proofs.Common.{◌+◌, ◌*◌, length}
use Rattle.tal_tree.specs.declared.expression.Cond.{size-Cond}
use Rattle.tal_values.specs.Chain.{cond_of}
use Rattle.tal_code.proofs.Growing.{Joins}
use Rattle.tal_code.proofs.compile.+put_cond.Given as goal

abbrev pub decreases-put_cond : goal.decreases-put_cond
decreases-put_cond l = 2 * size-Cond l.cond.now + 1

abbrev pub decreases-put_test : goal.decreases-put_test
decreases-put_test l = 2 * size-Cond (cond_of l.first)

abbrev pub decreases-put_link : goal.decreases-put_link
decreases-put_link l = 2 * size-Cond l.link.right.now + 2

abbrev pub invariant-put_cond-loop-link : goal.invariant-put_cond-loop-link
invariant-put_cond-loop-link l = Joins l.fn.draft l.draft l.links.items l.fn.cond

abbrev pub decreases-put_cond-loop-link : goal.decreases-put_cond-loop-link
decreases-put_cond-loop-link l = length l.links.items

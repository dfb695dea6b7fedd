use Rattle.std.proofs.Common.{◌+◌, ◌*◌, drop, length}
use Rattle.tal_tree.specs.Statements.{numbers_of}
use Rattle.tal_table.specs.Loads.{numbers_at}
use Rattle.tal_table.proofs.Nodes.{Listing}
use Rattle.tal_table.proofs.fill.+put.Given as goal

abbrev pub decreases-put_list : goal.decreases-put_list
decreases-put_list l = 3 * length (numbers_of l.statements.now) + 2

abbrev pub decreases-put_statement : goal.decreases-put_statement
decreases-put_statement l = 3 * length (numbers_at l.statement.now) + 1

abbrev pub decreases-put_if : goal.decreases-put_if
decreases-put_if l = 3 * length (numbers_at l.statement.now)

abbrev pub decreases-put_while : goal.decreases-put_while
decreases-put_while l = 3 * length (numbers_at l.statement.now)

abbrev pub decreases-put_for : goal.decreases-put_for
decreases-put_for l = 3 * length (numbers_at l.statement.now)

abbrev pub decreases-put_do : goal.decreases-put_do
decreases-put_do l = 3 * length (numbers_at l.statement.now)

abbrev pub invariant-put_list-loop-k : goal.invariant-put_list-loop-k
invariant-put_list-loop-k l =
    Listing l.fn.nodes.items l.nodes.items l.procedure l.statements (drop l.k l.statements) l.after

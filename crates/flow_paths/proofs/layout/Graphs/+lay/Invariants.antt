use Rattle.std.proofs.Common.{◌+◌, ◌*◌}
use Rattle.tal_tree.specs.Rows.{rows}
use Rattle.flow_paths.specs.Layout.{size_in, size_row, graph_at, graph_sizes}
use Rattle.flow_paths.proofs.Laying.{IsLaying}
use Rattle.flow_paths.proofs.layout.Graphs.+lay.Given as goal

abbrev pub decreases-lay_all : goal.decreases-lay_all
decreases-lay_all l = 3 * size_row (graph_sizes l.self.now) (rows l.statements.now) + 2

abbrev pub decreases-lay : goal.decreases-lay
decreases-lay l = 3 * size_in (graph_sizes l.self.now) l.statement.now.what + 1

abbrev pub decreases-lay_if : goal.decreases-lay_if
decreases-lay_if l =
    3 * (size_row (graph_sizes l.self.now) (rows l.yes.now) + size_row (graph_sizes l.self.now) (rows l.no.now)) + 3

abbrev pub decreases-lay_while : goal.decreases-lay_while
decreases-lay_while l = 3 * size_row (graph_sizes l.self.now) (rows l.body.now) + 3

abbrev pub decreases-lay_for : goal.decreases-lay_for
decreases-lay_for l = 3 * size_row (graph_sizes l.self.now) (rows l.body.now) + 3

abbrev pub decreases-lay_do : goal.decreases-lay_do
decreases-lay_do l = 3 * size_row (graph_sizes l.self.now) (rows l.body.now) + 3

abbrev pub invariant-lay_all-loop-statement : goal.invariant-lay_all-loop-statement
invariant-lay_all-loop-statement l =
    IsLaying (graph_at l.self) l.statements l.at l.after l.fn.nodes.items l.statement-index l.next l.left l.nodes.items

use Rattle.std.proofs.Common.{◌≡◌, ◌+◌, ◌≤◌, ℕ, List, [], ◌∷◌, ◌++◌, drop, arith, ap, sym, ◌∙◌}
use Rattle.std.proofs.lemmas.Result.{on_ok_weaker}
use Rattle.tal_tree.specs.Rows.{rows}
use Rattle.tal_tree.specs.declared.statement.Statement.{Statement}
use Rattle.tal_tree.specs.declared.statement.What.{What, For}
use Rattle.flow_paths.specs.Graph.{Node}
use Rattle.flow_paths.specs.Layout.{size_in, size_row, lay_in, graph_at, graph_sizes}
use Rattle.flow_paths.proofs.Laying.{lays-if, lays-while, lays-for, lays-do, next-fits, one-more-laid, laying-ends}
use Rattle.flow_paths.proofs.Sizes.{size-if, size-while, size-for, size-do, size-at-most}
use Rattle.flow_paths.proofs.layout.Graphs.+lay.Goals as goal

pub lay-lay_if-requires : goal.lay-lay_if-requires
lay-lay_if-requires t c =
    let size = size-if (graph_sizes c.args.self.now) c.args.statement.now.what c.in-If.test c.in-If.yes c.in-If.no
    c.in-If.is in
    let first = ap (λ (xs : List Statement). size_row (graph_sizes c.args.self.now) (rows xs)) c.as_slice.ensures in
    let second =
    ap (λ (xs : List Statement). size_row (graph_sizes c.args.self.now) (rows xs)) c.as_slice-in-If.ensures in
    (omega (arith, c.decreases), omega (arith, c.requires.room))

pub lay-lay_while-requires : goal.lay-lay_while-requires
lay-lay_while-requires t c =
    let size = size-while (graph_sizes c.args.self.now) c.args.statement.now.what c.in-While.test c.in-While.body
    c.in-While.is in
    let body = ap (λ (xs : List Statement). size_row (graph_sizes c.args.self.now) (rows xs))
    c.as_slice-in-While.ensures in
    (omega (arith, c.decreases), omega (arith, c.requires.room))

pub lay-lay_for-requires : goal.lay-lay_for-requires
lay-lay_for-requires t c =
    let size = size-for (graph_sizes c.args.self.now) c.args.statement.now.what c.in-For.variable c.in-For.from
    c.in-For.to c.in-For.down c.in-For.step c.in-For.body c.in-For.last c.in-For.is in
    let body = ap (λ (xs : List Statement). size_row (graph_sizes c.args.self.now) (rows xs))
    c.as_slice-in-For.ensures in
    (omega (arith, c.decreases), omega (arith, c.requires.room))

pub lay-lay_do-requires : goal.lay-lay_do-requires
lay-lay_do-requires t c =
    let size = size-do (graph_sizes c.args.self.now) c.args.statement.now.what c.in-DoUntil.body c.in-DoUntil.test
    c.in-DoUntil.is in
    let body = ap (λ (xs : List Statement). size_row (graph_sizes c.args.self.now) (rows xs))
    c.as_slice-in-DoUntil.ensures in
    (omega (arith, c.decreases), omega (arith, c.requires.room))

pub lay-returns-in-For : goal.lay-returns-in-For
lay-returns-in-For t c =
    let is : For c.in-For.variable c.in-For.from c.in-For.to c.in-For.down c.in-For.step c.as_slice-in-For.result.now
    c.in-For.last ≡ c.args.statement.now.what =
    ap (λ (xs : List Statement). For c.in-For.variable c.in-For.from c.in-For.to c.in-For.down c.in-For.step xs
    c.in-For.last)
    c.as_slice-in-For.ensures ∙ sym c.in-For.is in
    on_ok_weaker c.lay_for.result
    (λ laid. laid c.in-For.variable c.in-For.from c.in-For.to c.in-For.down c.in-For.step c.in-For.last
    ∙ ap (λ (w : What). c.args.nodes.now.items
    ++ lay_in (graph_at c.args.self.now) w c.args.statement.now c.args.at c.args.after.now) is)
    c.lay_for.ensures

pub lay_all-size_of-requires : goal.lay_all-size_of-requires
lay_all-size_of-requires t c =
    let fits : c.loop-statement.next + size_in (graph_sizes c.args.self.now) c.statement-item.result.what
    + size_row (graph_sizes c.args.self.now) (rows (drop (c.loop-statement.statement-index + 1) c.args.statements.now))
    ≡ c.args.at + size_row (graph_sizes c.args.self.now) (rows c.args.statements.now) =
    next-fits (graph_at c.args.self.now) c.args.statements.now c.args.at c.args.after.now c.args.nodes.now.items
    c.loop-statement.statement-index c.loop-statement.next
    c.loop-statement.left c.loop-statement.nodes.items c.statement-item.result c.loop-statement.invariant
    c.statement-item.is c.loop-statement-test.true in
    omega (arith, c.requires.room)

pub lay_all-overflow_add-end : goal.lay_all-overflow_add-end
lay_all-overflow_add-end t c =
    let fits : c.loop-statement.next + size_in (graph_sizes c.args.self.now) c.statement-item.result.what
    + size_row (graph_sizes c.args.self.now) (rows (drop (c.loop-statement.statement-index + 1) c.args.statements.now))
    ≡ c.args.at + size_row (graph_sizes c.args.self.now) (rows c.args.statements.now) =
    next-fits (graph_at c.args.self.now) c.args.statements.now c.args.at c.args.after.now c.args.nodes.now.items
    c.loop-statement.statement-index c.loop-statement.next
    c.loop-statement.left c.loop-statement.nodes.items c.statement-item.result c.loop-statement.invariant
    c.statement-item.is c.loop-statement-test.true in
    omega (arith, c.requires.room, c.size_of.ensures)

pub lay_all-lay-requires : goal.lay_all-lay-requires
lay_all-lay-requires t c =
    let fits : c.loop-statement.next + size_in (graph_sizes c.args.self.now) c.statement-item.result.what
    + size_row (graph_sizes c.args.self.now) (rows (drop (c.loop-statement.statement-index + 1) c.args.statements.now))
    ≡ c.args.at + size_row (graph_sizes c.args.self.now) (rows c.args.statements.now) =
    next-fits (graph_at c.args.self.now) c.args.statements.now c.args.at c.args.after.now c.args.nodes.now.items
    c.loop-statement.statement-index c.loop-statement.next
    c.loop-statement.left c.loop-statement.nodes.items c.statement-item.result c.loop-statement.invariant
    c.statement-item.is c.loop-statement-test.true in
    let smaller : size_in (graph_sizes c.args.self.now) c.statement-item.result.what
    ≤ size_row (graph_sizes c.args.self.now) (rows c.args.statements.now) =
    size-at-most (graph_sizes c.args.self.now) c.args.statements.now c.loop-statement.statement-index
    c.statement-item.result c.statement-item.is c.loop-statement-test.true in
    (omega (arith, c.decreases), omega (arith, c.requires.room))

pub lay_all-loop-statement-preserved : goal.lay_all-loop-statement-preserved
lay_all-loop-statement-preserved t c =
    one-more-laid (graph_at c.args.self.now) c.args.statements.now c.args.at c.args.after.now c.args.nodes.now.items
    c.loop-statement.statement-index c.loop-statement.next
    c.loop-statement.left c.loop-statement.nodes.items c.statement-item.result
    (c.loop-statement.next + c.size_of.result) c.in_ok-on.on c.lay.new.nodes.items
    c.loop-statement.invariant c.statement-item.is c.loop-statement-test.true
    (ap (λ (n : ℕ). c.loop-statement.next + n) c.size_of.ensures) c.in_ok-on.ensures c.in_ok-lay.ensures

pub lay_all-returns : goal.lay_all-returns
lay_all-returns t c =
    laying-ends (graph_at c.args.self.now) c.args.statements.now c.args.at c.args.after.now c.args.nodes.now.items
    c.loop-statement.statement-index c.loop-statement.next
    c.loop-statement.left c.loop-statement.nodes.items c.loop-statement.invariant
    (omega (arith, c.loop-statement-test.false))

pub lay_for-returns : goal.lay_for-returns
lay_for-returns t c = λ variable from to down step last.
    lays-for (graph_at c.args.self.now) c.args.statement.now c.args.at c.args.after.now c.args.nodes.now.items variable
    from to down step last c.args.body.now
    (c.args.at + 2 + c.size_of_all.result) c.in_ok-first.first c.in_ok-second.second c.to_node-counts.result
    c.to_node.result c.to_node-tests.result
    c.push_one.new.nodes.items c.push.new.self.items c.lay_all.new.nodes.items c.push-2.new.self.items
    (ap (λ (n : ℕ). c.args.at + 2 + n) c.size_of_all.ensures) c.to_node-counts.ensures c.in_ok-first.ensures
    c.in_ok-second.ensures c.to_node.ensures c.to_node-tests.ensures
    c.in_ok-push_one.ensures
    (c.in_ok-push.ensures.items ∙ ap (λ (node : Node). c.push_one.new.nodes.items ++ node ∷ []) c.two_ways.ensures)
    c.in_ok-lay_all.ensures
    (c.in_ok-push-2.ensures.items ∙ ap (λ (node : Node). c.lay_all.new.nodes.items ++ node ∷ []) c.one_way.ensures)

pub lay_do-returns : goal.lay_do-returns
lay_do-returns t c = λ test.
    lays-do (graph_at c.args.self.now) c.args.statement.now c.args.at c.args.after.now c.args.nodes.now.items test
    c.args.body.now (c.args.at + c.size_of_all.result) c.to_node-again.result c.in_ok-first.first c.in_ok-second.second
    c.lay_all.new.nodes.items c.push.new.self.items
    (ap (λ (n : ℕ). c.args.at + n) c.size_of_all.ensures) c.to_node-again.ensures c.in_ok-first.ensures
    c.in_ok-second.ensures c.in_ok-lay_all.ensures
    (c.in_ok-push.ensures.items ∙ ap (λ (node : Node). c.lay_all.new.nodes.items ++ node ∷ []) c.two_ways.ensures)

pub lay_if-returns : goal.lay_if-returns
lay_if-returns t c =
    on_ok_weaker c.lay_all-2.result
    (λ laid test. lays-if (graph_at c.args.self.now) c.args.statement.now c.args.at c.args.after.now
    c.args.nodes.now.items test c.args.yes.now c.args.no.now
    (c.args.at + 1 + c.size_of_all.result) c.in_ok-first.first c.in_ok-second.second c.push.new.self.items
    c.lay_all.new.nodes.items c.lay_all-2.new.nodes.items
    (ap (λ (n : ℕ). c.args.at + 1 + n) c.size_of_all.ensures) c.in_ok-first.ensures c.in_ok-second.ensures
    (c.in_ok-push.ensures.items ∙ ap (λ (node : Node). c.args.nodes.now.items ++ node ∷ []) c.two_ways.ensures)
    c.in_ok-lay_all.ensures laid)
    c.lay_all-2.ensures

pub lay_while-returns : goal.lay_while-returns
lay_while-returns t c =
    on_ok_weaker c.lay_all.result
    (λ laid test. lays-while (graph_at c.args.self.now) c.args.statement.now c.args.at c.args.after.now
    c.args.nodes.now.items test c.args.body.now
    c.to_node-again.result c.in_ok-first.first c.in_ok-second.second c.push.new.self.items c.lay_all.new.nodes.items
    c.to_node-again.ensures c.in_ok-first.ensures c.in_ok-second.ensures
    (c.in_ok-push.ensures.items ∙ ap (λ (node : Node). c.args.nodes.now.items ++ node ∷ []) c.two_ways.ensures)
    laid)
    c.lay_all.ensures

use Rattle.std.proofs.Common.{◌≡◌, ◌+◌, List, take, arith, ap, ◌∙◌}
use Rattle.tal_tree.specs.Rows.{rows}
use Rattle.tal_tree.specs.declared.statement.Statement.{Statement}
use Rattle.path_semantics.specs.Bounds.{told}
use Rattle.flow_paths.specs.Layout.{size_in, size_row, size_at}
use Rattle.flow_paths.proofs.Sizes.{size-if, size-while, size-for, size-do, one-more-size}
use Rattle.flow_paths.proofs.size.+size.Goals as goal

pub size_of_all-loop-statement-preserved : goal.size_of_all-loop-statement-preserved
size_of_all-loop-statement-preserved t c =
    let more : size_row (size_at c.args.sizes.now)
    (rows (take (c.loop-statement.statement-index + 1) c.args.statements.now))
    ≡ size_row (size_at c.args.sizes.now) (rows (take c.loop-statement.statement-index c.args.statements.now))
    + size_in (size_at c.args.sizes.now) c.statement-item.result.what =
    one-more-size (size_at c.args.sizes.now) c.args.statements.now c.loop-statement.statement-index
    c.statement-item.result c.statement-item.is c.loop-statement-test.true in
    let before : c.loop-statement.size ≡ told
    (size_row (size_at c.args.sizes.now) (rows (take c.loop-statement.statement-index c.args.statements.now))) =
    c.loop-statement.invariant in
    let after : c.saturating_add-size.result
    ≡ told (size_row (size_at c.args.sizes.now)
    (rows (take (c.loop-statement.statement-index + 1) c.args.statements.now))) =
    omega (arith, c.size_of.ensures, c.saturating_add-size.ensures) in
    after

pub size_of-returns-in-If : goal.size_of-returns-in-If
size_of-returns-in-If t c =
    let size = size-if (size_at c.args.sizes.now) c.args.statement.now.what c.in-If.test c.in-If.yes c.in-If.no
    c.in-If.is in
    let first : c.size_of_all-first.result ≡ told (size_row (size_at c.args.sizes.now) (rows c.in-If.yes)) =
    c.size_of_all-first.ensures ∙ ap (λ (xs : List Statement). told (size_row (size_at c.args.sizes.now) (rows xs)))
    c.as_slice.ensures in
    let second : c.size_of_all-second.result ≡ told (size_row (size_at c.args.sizes.now) (rows c.in-If.no)) =
    c.size_of_all-second.ensures ∙ ap (λ (xs : List Statement). told (size_row (size_at c.args.sizes.now) (rows xs)))
    c.as_slice-in-If.ensures in
    omega (arith, c.saturating_add.ensures, c.saturating_add-in-If.ensures)

pub size_of-returns-in-While : goal.size_of-returns-in-While
size_of-returns-in-While t c =
    let size = size-while (size_at c.args.sizes.now) c.args.statement.now.what c.in-While.test c.in-While.body
    c.in-While.is in
    let body : c.size_of_all.result ≡ told (size_row (size_at c.args.sizes.now) (rows c.in-While.body)) =
    c.size_of_all.ensures ∙ ap (λ (xs : List Statement). told (size_row (size_at c.args.sizes.now) (rows xs)))
    c.as_slice-in-While.ensures in
    omega (arith, c.saturating_add-in-While.ensures)

pub size_of-returns-in-For : goal.size_of-returns-in-For
size_of-returns-in-For t c =
    let size = size-for (size_at c.args.sizes.now) c.args.statement.now.what c.in-For.variable c.in-For.from
    c.in-For.to c.in-For.down c.in-For.step c.in-For.body c.in-For.last c.in-For.is in
    let body : c.size_of_all-in-For.result ≡ told (size_row (size_at c.args.sizes.now) (rows c.in-For.body)) =
    c.size_of_all-in-For.ensures ∙ ap (λ (xs : List Statement). told (size_row (size_at c.args.sizes.now) (rows xs)))
    c.as_slice-in-For.ensures in
    omega (arith, c.saturating_add-in-For.ensures)

pub size_of-returns-in-DoUntil : goal.size_of-returns-in-DoUntil
size_of-returns-in-DoUntil t c =
    let size = size-do (size_at c.args.sizes.now) c.args.statement.now.what c.in-DoUntil.body c.in-DoUntil.test
    c.in-DoUntil.is in
    let body : c.size_of_all-in-DoUntil.result ≡ told (size_row (size_at c.args.sizes.now) (rows c.in-DoUntil.body)) =
    c.size_of_all-in-DoUntil.ensures ∙ ap (λ (xs : List Statement). told (size_row (size_at c.args.sizes.now) (rows
    xs)))
    c.as_slice-in-DoUntil.ensures in
    omega (arith, c.saturating_add-in-DoUntil.ensures)

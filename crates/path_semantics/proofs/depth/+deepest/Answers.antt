use Rattle.std.proofs.Common.{◌≡◌, List, ap, ap₂, sym, ◌∙◌}
use Rattle.std.specs.Prelude.{max}
use Rattle.tal_tree.specs.declared.statement.Statement.{Statement}
use Rattle.path_semantics.specs.Bounds.{greatest, of_called}
use Rattle.path_semantics.proofs.Deepest.{one-more-statement, deepest-if, deepest-while, deepest-for, deepest-do}
use Rattle.path_semantics.proofs.depth.+deepest.Goals as goal

pub deepest-loop-statement-preserved : goal.deepest-loop-statement-preserved
deepest-loop-statement-preserved t c =
    c.max-found.ensures
    ∙ one-more-statement c.args.before.now c.args.statements.now c.loop-statement.statement-index
    c.statement-item.result c.loop-statement.found c.deepest_in.result
    c.statement-item.is c.loop-statement-test.true c.loop-statement.invariant c.deepest_in.ensures

pub deepest_in-returns-in-If : goal.deepest_in-returns-in-If
deepest_in-returns-in-If t c =
    let first : c.deepest-first.result ≡ greatest (of_called c.args.before.now c.in-If.yes) =
    c.deepest-first.ensures ∙ ap (λ (xs : List Statement). greatest (of_called c.args.before.now xs))
    c.as_slice.ensures in
    let second : c.deepest-second.result ≡ greatest (of_called c.args.before.now c.in-If.no) =
    c.deepest-second.ensures ∙ ap (λ (xs : List Statement). greatest (of_called c.args.before.now xs))
    c.as_slice-in-If.ensures in
    c.max.ensures ∙ ap₂ max first second ∙ sym
    (deepest-if c.args.before.now c.args.statement.now c.in-If.test c.in-If.yes c.in-If.no c.in-If.is)

pub deepest_in-returns-in-While : goal.deepest_in-returns-in-While
deepest_in-returns-in-While t c =
    c.deepest.ensures
    ∙ ap (λ (xs : List Statement). greatest (of_called c.args.before.now xs)) c.as_slice-in-While.ensures
    ∙ sym (deepest-while c.args.before.now c.args.statement.now c.in-While.test c.in-While.body c.in-While.is)

pub deepest_in-returns-in-For : goal.deepest_in-returns-in-For
deepest_in-returns-in-For t c =
    c.deepest-in-For.ensures
    ∙ ap (λ (xs : List Statement). greatest (of_called c.args.before.now xs)) c.as_slice-in-For.ensures
    ∙ sym (deepest-for c.args.before.now c.args.statement.now c.in-For.variable c.in-For.from c.in-For.to c.in-For.down
    c.in-For.step c.in-For.body c.in-For.last c.in-For.is)

pub deepest_in-returns-in-DoUntil : goal.deepest_in-returns-in-DoUntil
deepest_in-returns-in-DoUntil t c =
    c.deepest-in-DoUntil.ensures
    ∙ ap (λ (xs : List Statement). greatest (of_called c.args.before.now xs)) c.as_slice-in-DoUntil.ensures
    ∙ sym (deepest-do c.args.before.now c.args.statement.now c.in-DoUntil.body c.in-DoUntil.test c.in-DoUntil.is)

use Rattle.std.proofs.Common.{rules, ◌≡◌, ◌≤◌, ◌+◌, ℤ, List, ◌∷◌, drop, refl, ap, ap₂, sym, ◌∙◌, arith, to_z, of_z}
use Rattle.std.proofs.lemmas.Int.{wraps}
use Rattle.std.specs.Int.{w16}
use Rattle.tal_tree.specs.declared.expression.Expr.TheVariants as expr
use Rattle.tal_tree.specs.declared.statement.Statement.{Statement}
use Rattle.tal_tree.specs.declared.statement.What.{If, While, For, DoUntil}
use Rattle.process_semantics.specs.tal_values.specs.Spots.{spot_of}
use Rattle.program_deeds.specs.Deed.{counts_by}
use Rattle.tal_table.specs.Loads.{begins}
use Rattle.tal_table.specs.declared.node.Work.TheVariants as work
use Rattle.tal_table.proofs.Nodes.{left-is, drop-past, on-ok, listing-next, listing-end, while-puts, if-puts, for-puts}
use Rattle.tal_table.proofs.Nodes.{do-puts}
use Rattle.tal_table.proofs.Small.{count-at, count-while, count-if, count-for, count-do, small-at, small-own}
use Rattle.tal_table.proofs.Small.{small-while, small-first, small-second, small-for, small-do}
use Rattle.tal_table.proofs.Waits.{few-at, few-while, few-first, few-second, few-for, few-do}
use Rattle.tal_table.proofs.fill.+put.Goals as goal

pub put_for-overflow_add-test : goal.put_for-overflow_add-test
put_for-overflow_add-test t c =
    let small : c.args.statement.now.number ≤ 2000 = small-own c.args.statement.now c.requires.small in search rules

pub put_for-put_list-requires : goal.put_for-put_list-requires
put_for-put_list-requires t c =
    let body = c.as_slice-body.result.now in
    let is : c.args.statement.now.what ≡ For c.in-For.variable c.in-For.from c.in-For.to c.in-For.down c.in-For.step
    body c.in-For.last =
    c.in-For.is ∙ ap (λ (ss : List Statement). For c.in-For.variable c.in-For.from c.in-For.to c.in-For.down
    c.in-For.step ss c.in-For.last)
    (sym c.as_slice-body.ensures) in (
      omega (
        arith,
        c.decreases,
        count-for c.args.statement.now c.in-For.variable c.in-For.from c.in-For.to c.in-For.down c.in-For.step body
            c.in-For.last is,
      ),
      (
        small-for c.args.statement.now c.requires.small c.in-For.variable c.in-For.from c.in-For.to c.in-For.down
            c.in-For.step body c.in-For.last
            is,
        few-for c.args.statement.now c.requires.few c.in-For.variable c.in-For.from c.in-For.to c.in-For.down
            c.in-For.step body c.in-For.last is,
      ),
    )

pub put_if-put_list-requires : goal.put_if-put_list-requires
put_if-put_list-requires t c =
    let yes = c.as_slice-yes.result.now in
    let other = c.as_slice-no.result.now in
    let is : c.args.statement.now.what ≡ If c.in-If.test yes other =
    c.in-If.is ∙ ap₂ (λ (ss rs : List Statement). If c.in-If.test ss rs) (sym c.as_slice-yes.ensures)
    (sym c.as_slice-no.ensures) in (
      omega (arith, c.decreases, count-if c.args.statement.now c.in-If.test yes other is),
      (
        small-first c.args.statement.now c.requires.small c.in-If.test yes other is,
        few-first c.args.statement.now c.requires.few c.in-If.test yes other is,
      ),
    )

pub put_if-put_list-requires-2 : goal.put_if-put_list-requires-2
put_if-put_list-requires-2 t c =
    let yes = c.as_slice-yes.result.now in
    let other = c.as_slice-no.result.now in
    let is : c.args.statement.now.what ≡ If c.in-If.test yes other =
    c.in-If.is ∙ ap₂ (λ (ss rs : List Statement). If c.in-If.test ss rs) (sym c.as_slice-yes.ensures)
    (sym c.as_slice-no.ensures) in (
      omega (arith, c.decreases, count-if c.args.statement.now c.in-If.test yes other is),
      (
        small-second c.args.statement.now c.requires.small c.in-If.test yes other is,
        few-second c.args.statement.now c.requires.few c.in-If.test yes other is,
      ),
    )

pub put_while-put_list-requires : goal.put_while-put_list-requires
put_while-put_list-requires t c =
    let body = c.as_slice-body.result.now in
    let is : c.args.statement.now.what ≡ While c.in-While.test body =
    c.in-While.is ∙ ap (While c.in-While.test) (sym c.as_slice-body.ensures) in (
      omega (arith, c.decreases, count-while c.args.statement.now c.in-While.test body is),
      (
        small-while c.args.statement.now c.requires.small c.in-While.test body is,
        few-while c.args.statement.now c.requires.few c.in-While.test body is,
      ),
    )

pub put_list-put_statement-requires : goal.put_list-put_statement-requires
put_list-put_statement-requires t c = (
  omega (
    arith,
    c.decreases,
    count-at c.args.statements.now c.loop-k.k c.index-statements-k.result
        c.index-statements-k.is c.loop-k-test.true,
  ),
  (
    small-at c.args.statements.now c.loop-k.k c.index-statements-k.result c.index-statements-k.is c.loop-k-test.true
        c.requires.small,
    few-at c.args.statements.now c.loop-k.k c.index-statements-k.result c.index-statements-k.is c.loop-k-test.true
        c.requires.few,
  ),
)

pub put_list-loop-k-preserved : goal.put_list-loop-k-preserved
put_list-loop-k-preserved t c =
    let left : drop c.loop-k.k c.args.statements.now
    ≡ c.index-statements-k.result ∷ drop (c.loop-k.k + 1) c.args.statements.now =
    left-is c.args.statements.now c.loop-k.k c.index-statements-k.result c.index-statements-k.is c.loop-k-test.true in
    let next : c.begins-next.result ≡ begins (drop (c.loop-k.k + 1) c.args.statements.now) c.args.after =
    c.begins-next.ensures ∙ ap (λ (others : List Statement). begins others c.args.after) c.split_at.ensures.back in
    listing-next c.args.nodes.now.items c.loop-k.nodes.items c.put_statement.new.nodes.items c.args.procedure
    c.args.statements.now (drop c.loop-k.k c.args.statements.now)
    c.index-statements-k.result (drop (c.loop-k.k + 1) c.args.statements.now) c.args.after c.begins-next.result left
    next c.in_ok-put_statement.ensures c.loop-k.invariant

pub put_list-returns : goal.put_list-returns
put_list-returns t c =
    listing-end c.args.nodes.now.items c.loop-k.nodes.items c.args.procedure c.args.statements.now
    (drop c.loop-k.k c.args.statements.now) c.args.after
    (drop-past c.args.statements.now c.loop-k.k c.loop-k-test.false) c.loop-k.invariant

pub put_while-returns : goal.put_while-returns
put_while-returns t c =
    let body = c.as_slice-body.result.now in
    let is : c.args.statement.now.what ≡ While c.in-While.test body =
    c.in-While.is ∙ ap (While c.in-While.test) (sym c.as_slice-body.ensures) in
    on-ok c.put_list.result (λ put. while-puts c.args.nodes.now.items c.push.new.nodes.items c.put_list.new.nodes.items
    c.args.procedure c.args.statement.now c.in-While.test
    body c.begins.result c.args.after c.in_ok-work.work is c.begins.ensures c.in_ok-work.ensures c.in_ok-push.ensures
    put) c.put_list.ensures

pub put_if-returns : goal.put_if-returns
put_if-returns t c =
    let yes = c.as_slice-yes.result.now in
    let other = c.as_slice-no.result.now in
    let is : c.args.statement.now.what ≡ If c.in-If.test yes other =
    c.in-If.is ∙ ap₂ (λ (ss rs : List Statement). If c.in-If.test ss rs) (sym c.as_slice-yes.ensures)
    (sym c.as_slice-no.ensures) in
    on-ok c.put_list-2.result (λ put. if-puts c.args.nodes.now.items c.push.new.nodes.items c.put_list.new.nodes.items
    c.put_list-2.new.nodes.items c.args.procedure
    c.args.statement.now c.in-If.test yes other c.begins.result c.begins-2.result c.args.after c.in_ok-work.work is
    c.begins.ensures c.begins-2.ensures
    c.in_ok-work.ensures c.in_ok-push.ensures c.in_ok-put_list.ensures put) c.put_list-2.ensures

pub put_for-returns : goal.put_for-returns
put_for-returns t c =
    let kept : to_z w16 (of_z w16 c.in-For.step) ≡ c.in-For.step = first_of (search (rules, wraps), search rules) in
    let again : c.in_ok-again.again ≡ work.Assign (spot_of c.in-For.variable) (expr.Two (counts_by c.in-For.down)
    (expr.Read (spot_of c.in-For.variable)) (expr.Number c.in-For.step)) (c.args.statement.now.number + 1) =
    c.in_ok-again.ensures ∙ ap (λ (step : ℤ). work.Assign (spot_of c.in-For.variable)
    (expr.Two (counts_by c.in-For.down) (expr.Read (spot_of c.in-For.variable)) (expr.Number step))
    (c.args.statement.now.number + 1)) kept in
    let body = c.as_slice-body.result.now in
    let is : c.args.statement.now.what ≡ For c.in-For.variable c.in-For.from c.in-For.to c.in-For.down c.in-For.step
    body c.in-For.last =
    c.in-For.is ∙ ap (λ (ss : List Statement). For c.in-For.variable c.in-For.from c.in-For.to c.in-For.down
    c.in-For.step ss c.in-For.last)
    (sym c.as_slice-body.ensures) in
    on-ok c.push-3.result (λ pushed. for-puts c.args.nodes.now.items c.push.new.nodes.items c.push-2.new.nodes.items
    c.put_list.new.nodes.items c.push-3.new.nodes.items
    c.args.procedure c.args.statement.now c.in-For.variable c.in-For.from c.in-For.to c.in-For.down c.in-For.step body
    c.in-For.last
    c.begins.result (c.args.statement.now.number + 1) c.args.after
    c.in_ok-start.start c.in_ok-limit.limit c.in_ok-again.again is refl c.begins.ensures c.in_ok-start.ensures
    c.in_ok-limit.ensures
    again c.in_ok-push.ensures c.in_ok-push-2.ensures c.in_ok-put_list.ensures pushed) c.push-3.ensures

pub put_do-put_list-requires : goal.put_do-put_list-requires
put_do-put_list-requires t c =
    let body = c.as_slice-body.result.now in
    let is : c.args.statement.now.what ≡ DoUntil body c.in-DoUntil.test =
    c.in-DoUntil.is ∙ ap (λ (ss : List Statement). DoUntil ss c.in-DoUntil.test) (sym c.as_slice-body.ensures) in (
      omega (arith, c.decreases, count-do c.args.statement.now body c.in-DoUntil.test is),
      (
        small-do c.args.statement.now c.requires.small body c.in-DoUntil.test is,
        few-do c.args.statement.now c.requires.few body c.in-DoUntil.test is,
      ),
    )

pub put_do-returns : goal.put_do-returns
put_do-returns t c =
    let body = c.as_slice-body.result.now in
    let is : c.args.statement.now.what ≡ DoUntil body c.in-DoUntil.test =
    c.in-DoUntil.is ∙ ap (λ (ss : List Statement). DoUntil ss c.in-DoUntil.test) (sym c.as_slice-body.ensures) in
    on-ok c.push.result (λ pushed. do-puts c.args.nodes.now.items c.put_list.new.nodes.items c.push.new.nodes.items
    c.args.procedure c.args.statement.now body c.in-DoUntil.test c.begins.result c.args.after c.in_ok-work.work is
    c.begins.ensures c.in_ok-work.ensures c.in_ok-put_list.ensures pushed) c.push.ensures

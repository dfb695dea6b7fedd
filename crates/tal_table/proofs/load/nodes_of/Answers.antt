use Rattle.std.proofs.Common.{rules, List, Some, ap, subst, sym, ◌∙◌}
use Rattle.std.proofs.lemmas.Option.{slice_get-get_or}
use Rattle.process_semantics.specs.Rests.{rests}
use Rattle.tal_tree.specs.Statements.{all_of, numbers_of}
use Rattle.tal_tree.specs.declared.program.Procedure.{Procedure}
use Rattle.tal_tree.specs.declared.statement.Statement.{Statement}
use Rattle.tal_table.specs.Loads.{AreSmall, FewWait, Puts}
use Rattle.tal_table.proofs.Filled.{fills-start, fills-next}
use Rattle.tal_table.proofs.Small.{small-body}
use Rattle.tal_table.proofs.load.nodes_of.Goals as goal

pub loop-number-init : goal.loop-number-init
loop-number-init c = fills-start c.args.procedures.now c.push.new.self.items (search rules)

pub put_list-requires-clause-small : goal.put_list-requires-clause-small
put_list-requires-clause-small c =
    subst (λ (body : List Statement). AreSmall (numbers_of body)) (sym c.as_slice-body.ensures)
    (small-body c.args.procedures.now c.loop-number.number c.index-procedures-number.result
    c.index-procedures-number.is c.loop-number-test.true c.requires.small)

pub put_list-requires-clause-few : goal.put_list-requires-clause-few
put_list-requires-clause-few c = subst (λ (body : List Statement). FewWait (all_of body)) (sym c.as_slice-body.ensures)
    (c.requires.waiting c.loop-number.number c.index-procedures-number.result
    (slice_get-get_or c.args.procedures.now c.loop-number.number c.index-procedures-number.result
    c.loop-number-test.true
    ∙ ap (λ (p : Procedure). Some p) (sym c.index-procedures-number.is)))

pub loop-number-preserved : goal.loop-number-preserved
loop-number-preserved c = fills-next c.args.procedures.now c.loop-number.nodes.items c.put_list.new.nodes.items
    c.loop-number.number c.index-procedures-number.result
    c.index-procedures-number.is c.loop-number-test.true
    (subst (λ (body : List Statement). Puts c.loop-number.nodes.items c.put_list.new.nodes.items c.loop-number.number
    (rests body) 0) c.as_slice-body.ensures c.in_ok-put_list.ensures)
    c.loop-number.invariant

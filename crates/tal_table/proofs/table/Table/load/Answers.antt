use Rattle.std.proofs.Common.{◌≡◌, List, slice_get, refl, ap, subst, sym, ◌∙◌, rules}
use Rattle.tal_tree.specs.Ordered.{numbers_in_all}
use Rattle.tal_tree.specs.declared.program.Procedure.{Procedure}
use Rattle.tal_tree.specs.declared.program.Program.{Program}
use Rattle.checkpoint_image.specs.process_images.specs.Images.{asking_from, listable_from}
use Rattle.tal_table.specs.Loads.{AreSmall}
use Rattle.tal_table.specs.Tables.{IsTable}
use Rattle.tal_table.proofs.Filled.{table-is, few-locals}
use Rattle.tal_table.proofs.table.Table.load.Goals as goal

pub headings_of-requires : goal.headings_of-requires
headings_of-requires c =
    few-locals c.args.program.now c.as_slice-procedures.result.now c.as_slice-procedures.ensures c.requires.limits

pub nodes_of-requires-clause-small : goal.nodes_of-requires-clause-small
nodes_of-requires-clause-small c =
    subst (λ (procedures : List Procedure). AreSmall (numbers_in_all procedures)) (sym c.as_slice-procedures.ensures)
    (λ number among. (c.requires.limits.numbers number among).1)

pub nodes_of-requires-clause-waiting : goal.nodes_of-requires-clause-waiting
nodes_of-requires-clause-waiting c = λ k procedure there.
    c.requires.waiting k procedure (ap (λ (procedures : List Procedure). slice_get procedures k)
    (sym c.as_slice-procedures.ensures) ∙ there)

pub invariant_of-result : goal.invariant_of-result
invariant_of-result c =
    let value : c.of.result.value ≡ c.args.program.now = c.of.ensures in
    let items : c.in_ok-items.items ≡ c.args.program.now.items = search rules in
    let table : IsTable c.args.program.now c.in_ok-nodes.nodes.items c.in_ok-headings.headings.items =
    table-is c.args.program.now c.as_slice-procedures.result.now c.in_ok-nodes.nodes.items
    c.in_ok-headings.headings.items c.as_slice-procedures.ensures
    c.requires.numbered c.requires.limits c.requires.regular c.in_ok-nodes.ensures c.in_ok-headings.ensures in
    let named : c.in_ok-everything.everything.items ≡ listable_from 0 c.args.program.now.items = search rules in
    let asked : c.in_ok-everything.everything.files ≡ asking_from 0 c.args.program.now.files = search rules in
    subst (λ (program : Program). (c.args.program.now.main ≡ program.main) × ((c.in_ok-items.items ≡ program.items)
    × (IsTable program c.in_ok-nodes.nodes.items c.in_ok-headings.headings.items
    × ((c.in_ok-everything.everything.items ≡ listable_from 0 program.items)
    × (c.in_ok-everything.everything.files ≡ asking_from 0 program.files))))) (sym value)
    (refl, (items, (table, (named, asked))))

use Rattle.std.proofs.Common.{rules, ◌≡◌, ◌≤◌, Some, length, refl, slice_get}
use Rattle.std.proofs.lemmas.Option.{slice_get_read}
use Rattle.tal_table.proofs.Own.{table-seen, past-told, node-told}
use Rattle.tal_table.proofs.table.Table.is_own.Goals as goal

pub returns-in-None : goal.returns-in-None
returns-in-None c =
    let table = table-seen c.self.inside.program.value c.args.self.now c.self.inside.nodes.items
    c.self.inside.headings.items c.self.view_is c.self.invariant in
    let past : length c.self.inside.nodes.items ≤ c.args.number = search rules in
    past-told c.args.self.now c.self.inside.nodes.items c.self.inside.headings.items table c.args.number
    c.args.procedure c.requires past

pub returns-in-Some : goal.returns-in-Some
returns-in-Some c =
    let table = table-seen c.self.inside.program.value c.args.self.now c.self.inside.nodes.items
    c.self.inside.headings.items c.self.view_is c.self.invariant in
    let there : slice_get c.self.inside.nodes.items c.args.number ≡ Some c.in-Some.node.now =
    slice_get_read c.self.inside.nodes.items (length c.self.inside.nodes.items) c.args.number c.in-Some.node.now refl
    (search rules) (search rules) in
    node-told c.args.self.now c.self.inside.nodes.items c.self.inside.headings.items table c.args.number
    c.args.procedure c.in-Some.node.now c.requires there

use Rattle.std.proofs.Common.{rules, ◌≤◌, ◌<◌, length}
use Rattle.tal_table.proofs.Own.{table-seen, next-there, few-there, next-past}
use Rattle.tal_table.proofs.table.Table.next_number.Goals as goal

pub returns-then-from-len-clause-next : goal.returns-then-from-len-clause-next
returns-then-from-len-clause-next c =
    let table = table-seen c.self.inside.program.value c.args.self.now c.self.inside.nodes.items
    c.self.inside.headings.items c.self.view_is c.self.invariant in
    let within : c.args.number < length c.self.inside.nodes.items = search rules in
    next-there c.args.self.now c.self.inside.nodes.items c.self.inside.headings.items table c.args.number within

pub returns-then-from-len-clause-few : goal.returns-then-from-len-clause-few
returns-then-from-len-clause-few c =
    let table = table-seen c.self.inside.program.value c.args.self.now c.self.inside.nodes.items
    c.self.inside.headings.items c.self.view_is c.self.invariant in
    let within : c.args.number < length c.self.inside.nodes.items = search rules in
    few-there c.args.self.now c.self.inside.nodes.items c.self.inside.headings.items table c.args.number within

pub returns-else-from-len-clause-next : goal.returns-else-from-len-clause-next
returns-else-from-len-clause-next c =
    let table = table-seen c.self.inside.program.value c.args.self.now c.self.inside.nodes.items
    c.self.inside.headings.items c.self.view_is c.self.invariant in
    let past : length c.self.inside.nodes.items ≤ c.args.number = search rules in
    next-past c.args.self.now c.self.inside.nodes.items c.self.inside.headings.items table c.args.number past

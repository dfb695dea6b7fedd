use Rattle.std.proofs.Common.{ap, ◌∙◌}
use Rattle.name_table.specs.Entries.{has_name}
use Rattle.name_table.proofs.Found.{found-there}
use Rattle.name_table.proofs.table.NameTable.contains.Goals as goal

pub returns : goal.returns
returns g c =
    let name = c.args.name.now in
    c.contains_key.ensures ∙ found-there name c.self.inside.entries.entries
    ∙ ap (λ entries. has_name entries name) c.self.view_is

use Rattle.std.proofs.Common.{ap, ◌∙◌}
use Rattle.name_table.specs.Entries.{place_of}
use Rattle.name_table.proofs.Found.{place-found}
use Rattle.name_table.proofs.table.NameTable.place_of.Goals as goal

pub returns-clause-value : goal.returns-clause-value
returns-clause-value g c =
    let name = c.args.name.now in
    c.get_index_of.ensures.index ∙ place-found name c.self.inside.entries.entries
    ∙ ap (λ entries. place_of entries name) c.self.view_is

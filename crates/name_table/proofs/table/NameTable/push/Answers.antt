use Rattle.std.proofs.Common.{◌≡◌, ◌∷◌, ◌++◌, [], false, ap, ◌∙◌}
use Rattle.indexmap.proofs.CallerLemmas.{insert_entry-new}
use Rattle.gd_words.specs.contracts.name.NamePartialEq.TheImpl.{ghosts}
use Rattle.name_table.specs.Entries.{has_name}
use Rattle.name_table.proofs.Found.{not_found}
use Rattle.name_table.proofs.table.NameTable.push.Goals as goal

pub returns-clause-ok : goal.returns-clause-ok
returns-clause-ok g c =
    let name = c.args.name in
    let new : has_name c.self.inside.entries.entries name ≡ false =
    ap (λ entries. has_name entries name) c.self.view_is ∙ c.requires.new in
    c.in_ok-insert.ensures.entries
    ∙ insert_entry-new ghosts.eq c.self.inside.entries name c.args.value
    (not_found name c.self.inside.entries.entries new)
    ∙ ap (λ entries. entries ++ (name, c.args.value) ∷ []) c.self.view_is

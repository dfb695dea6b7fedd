use Rattle.std.proofs.Common.{ap, ◌∙◌, is_some}
use Rattle.tal_names.specs.Names.{is_declared}
use Rattle.tal_names.proofs.Lookups.{placed}
use Rattle.tal_names.proofs.names.Names.is_declared.Goals as goal

pub returns : goal.returns
returns c =
    c.contains_key.ensures ∙ ap is_some (c.self.invariant c.args.name) ∙ placed c.args.name c.self.inside.declared
    ∙ ap (is_declared c.args.name) c.self.view_is

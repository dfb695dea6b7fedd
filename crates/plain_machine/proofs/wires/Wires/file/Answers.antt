use Rattle.std.proofs.Common.{◌∙◌, ap}
use Rattle.tal_tree.specs.declared.site.Who.TheVariants as who
use Rattle.plain_semantics.specs.Openers.{opener_of}
use Rattle.plain_machine.specs.Wiring.{found_file}
use Rattle.plain_machine.proofs.Lookups.{file-found}
use Rattle.plain_machine.proofs.wires.Wires.file.Goals as goal

pub returns : goal.returns
returns c =
    c.found_file.ensures
    ∙ ap (λ rows. found_file rows c.args.process c.args.file) c.self.invariant.0
    ∙ file-found c.self.inside.site.now c.args.process c.args.file
    ∙ ap (λ site. opener_of site (who.File c.args.process c.args.file)) c.self.view_is

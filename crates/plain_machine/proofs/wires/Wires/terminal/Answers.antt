use Rattle.std.proofs.Common.{◌∙◌, ap, slice_get}
use Rattle.std.specs.Option.{option_flatten}
use Rattle.tal_tree.specs.declared.site.Who.TheVariants as who
use Rattle.plain_semantics.specs.Openers.{opener_of}
use Rattle.plain_machine.proofs.Lookups.{terminal-found}
use Rattle.plain_machine.proofs.wires.Wires.terminal.Goals as goal

pub returns : goal.returns
returns c =
    c.found_terminal.ensures
    ∙ ap (λ row. option_flatten (slice_get row c.args.terminal)) c.self.invariant.1
    ∙ terminal-found c.self.inside.site.now c.args.terminal
    ∙ ap (λ site. opener_of site (who.Terminal c.args.terminal)) c.self.view_is

use Rattle.std.proofs.Common.{◌∙◌, ap, refl}
use Rattle.tal_tree.specs.declared.site.Who.TheVariants as who
use Rattle.plain_semantics.specs.Openers.{opener_of}
use Rattle.world_copies.specs.SiteWorld.{SiteWorld}
use Rattle.world_copies.proofs.Terminals.{terminal-found}
use Rattle.world_copies.proofs.copies.WorldCopies.terminal_opener.Goals as goal

pub returns : goal.returns
returns c =
    c.found.ensures ∙ terminal-found c.self.inside.site c.self.inside.places c.args.terminal c.args.terminal
    c.self.invariant.2.0 refl
    ∙ ap (λ (s : SiteWorld). opener_of s.site (who.Terminal c.args.terminal)) c.self.view_is

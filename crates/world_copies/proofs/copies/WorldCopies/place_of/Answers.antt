use Rattle.std.proofs.Common.{◌≡◌, None, ap, subst, ◌∙◌}
use Rattle.std.specs.Option.{option_flatten}
use Rattle.tal_tree.specs.declared.site.Who.TheVariants as who
use Rattle.plain_semantics.specs.Openers.{opener_of}
use Rattle.world_copies.specs.SiteWorld.{SiteWorld}
use Rattle.world_copies.proofs.Terminals.{terminal-found}
use Rattle.world_copies.proofs.copies.WorldCopies.place_of.Goals as goal

pub returns-in-None : goal.returns-in-None
returns-in-None c =
    subst (λ (s : SiteWorld). None ≡ opener_of s.site (who.Terminal c.args.terminal)) c.self.view_is
    (ap option_flatten c.in-None.ensures.value
    ∙ terminal-found c.self.inside.site c.self.inside.places c.from.result c.args.terminal c.self.invariant.2.0
    c.from.ensures)

pub returns-in-Some : goal.returns-in-Some
returns-in-Some c =
    subst (λ (s : SiteWorld). c.in-Some.place.now ≡ opener_of s.site (who.Terminal c.args.terminal)) c.self.view_is
    (ap option_flatten c.in-Some.ensures.value
    ∙ terminal-found c.self.inside.site c.self.inside.places c.from.result c.args.terminal c.self.invariant.2.0
    c.from.ensures)

use Rattle.std.proofs.Common.{ap, ◌∙◌, refl, Some, None}
use Rattle.tal_names.specs.Names.{meaning_in}
use Rattle.tal_names.proofs.Lookups.{found}
use Rattle.tal_names.proofs.names.Names.meaning.Goals as goal

pub returns-in_err-place : goal.returns-in_err-place
returns-in_err-place c =
    c.from_residual.ensures
    ∙ found c.args.name c.self.inside.declared None None (c.in_err-place.ensures.value ∙ c.self.invariant c.args.name)
    refl
    ∙ ap (meaning_in c.args.name) c.self.view_is

pub returns-in_err-meaning : goal.returns-in_err-meaning
returns-in_err-meaning c =
    c.from_residual-in_err-meaning.ensures
    ∙ found c.args.name c.self.inside.declared (Some c.in_ok-place.place.now) None
    (c.in_ok-place.ensures.value ∙ c.self.invariant c.args.name)
    c.in_err-meaning.ensures.value
    ∙ ap (meaning_in c.args.name) c.self.view_is

pub returns : goal.returns
returns c =
    found c.args.name c.self.inside.declared (Some c.in_ok-place.place.now) (Some c.in_ok-meaning.field-0.now)
    (c.in_ok-place.ensures.value ∙ c.self.invariant c.args.name)
    c.in_ok-meaning.ensures.value
    ∙ ap (meaning_in c.args.name) c.self.view_is

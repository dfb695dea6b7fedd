use Rattle.std.proofs.Common.{ap, ◌∙◌, ◌≤◌, length, subst, sym}
use Rattle.tal_code.specs.Parts.{PartStack, built, parts_after, nothing}
use Rattle.tal_code.proofs.Room.{push-keeps, after-push}
use Rattle.tal_code.proofs.code.Draft.push.Goals as goal

pub invariant_of-self-2 : goal.invariant_of-self-2
invariant_of-self-2 c =
    push-keeps c.self.inside.steps c.push.new.self c.args.step c.in_ok-push.ensures.ok c.self.invariant
    (subst (λ (p : PartStack). length (parts_after c.args.step p).below ≤ 80) (sym c.self.view_is) c.requires)

pub returns : goal.returns
returns c = ap built c.in_ok-push.ensures.ok ∙ after-push c.self.inside.steps c.args.step nothing
    ∙ ap (parts_after c.args.step) c.self.view_is

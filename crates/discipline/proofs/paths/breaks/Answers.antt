use Rattle.std.proofs.Common.{◌≤◌, ◌∙◌, subst, sym}
use Rattle.discipline.proofs.Broken.{known-there, path-breaks, no-walk}
use Rattle.discipline.proofs.Tried.{has-most}
use Rattle.discipline.proofs.paths.breaks.Goals as goal

pub walk-requires-clause-few : goal.walk-requires-clause-few
walk-requires-clause-few c =
    subst (λ n. n ≤ 4) (sym c.most_of-most.ensures)
    (has-most c.args.program.now c.args.reason c.requires.limits
    (known-there c.args.program.now c.args.reason (sym c.is_there.ensures ∙ c.if-not-is_there.false))).few

pub returns-in-None : goal.returns-in-None
returns-in-None c = no-walk c.args.program.now c.args.path.now c.args.reason c.in-None.ensures

pub returns-in-Some : goal.returns-in-Some
returns-in-Some c = path-breaks c.args.program.now c.args.reason c.args.path.now c.requires.ordered c.in-Some.walker
    c.breaks.result c.in-Some.ensures c.breaks.ensures

use Rattle.std.proofs.Common.{◌≤◌, length, subst, sym}
use Rattle.verdicts.specs.Judgeable.{AreJudgeable}
use Rattle.runner.proofs.decide.due_of_advice.Goals as goal

pub advise_all-requires-clause-few : goal.advise_all-requires-clause-few
advise_all-requires-clause-few c =
    let startable = c.an_accepted_deck_meets_the_premises.ensures.startable c.requires.0 c.args.deck c.requires.1 in
    subst (λ specs. length specs ≤ 16) (sym c.as_slice.ensures) startable.limits.processes

pub advise_all-requires-clause-judgeable : goal.advise_all-requires-clause-judgeable
advise_all-requires-clause-judgeable c =
    subst AreJudgeable (sym c.as_slice.ensures)
    (c.an_accepted_deck_meets_the_premises.ensures.judgeable c.requires.0 c.args.deck c.requires.1)

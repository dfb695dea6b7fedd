use Rattle.finding_text.proofs.steps.put_uncovered.Goals as goal

pub returns : goal.returns
returns c = c.put.ensures

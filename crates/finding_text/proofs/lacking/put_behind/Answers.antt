use Rattle.finding_text.proofs.lacking.put_behind.Goals as goal

pub returns : goal.returns
returns c = c.put.ensures

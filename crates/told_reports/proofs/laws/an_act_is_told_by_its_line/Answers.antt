use Rattle.told_reports.proofs.Told.{act-is-told}
use Rattle.told_reports.proofs.laws.an_act_is_told_by_its_line.Goals as goal

pub returns : goal.returns
returns c = act-is-told

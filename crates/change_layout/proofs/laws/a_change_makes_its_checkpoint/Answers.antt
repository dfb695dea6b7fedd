use Rattle.change_layout.proofs.Whole.{makes-whole}
use Rattle.change_layout.proofs.laws.a_change_makes_its_checkpoint.Goals as goal

pub returns : goal.returns
returns c = makes-whole

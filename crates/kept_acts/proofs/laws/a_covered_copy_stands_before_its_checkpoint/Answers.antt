use Rattle.kept_acts.proofs.Coverings.{stands-before}
use Rattle.kept_acts.proofs.laws.a_covered_copy_stands_before_its_checkpoint.Goals as goal

pub returns : goal.returns
returns c = stands-before

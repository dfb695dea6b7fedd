use Rattle.discipline_laws.proofs.Discs.{disc-disciplined}
use Rattle.discipline_laws.proofs.laws.discs_are_disciplined.Goals as goal

pub returns : goal.returns
returns c = λ site number sectors mirrored spec is. disc-disciplined site number sectors mirrored spec is

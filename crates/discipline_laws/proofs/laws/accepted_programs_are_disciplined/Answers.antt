use Rattle.discipline_laws.proofs.Accepted.{accepted-disciplined}
use Rattle.discipline_laws.proofs.laws.accepted_programs_are_disciplined.Goals as goal

pub returns : goal.returns
returns c = accepted-disciplined

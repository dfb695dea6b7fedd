use Rattle.number_laws.proofs.Requests.{openers-there}
use Rattle.number_laws.proofs.laws.requests_name_their_openers.Goals as goal

pub returns : goal.returns
returns c = openers-there

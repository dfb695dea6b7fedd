use Rattle.number_laws.proofs.Played.{room-within}
use Rattle.number_laws.proofs.laws.numbers_have_successors.Goals as goal

pub returns : goal.returns
returns c = room-within

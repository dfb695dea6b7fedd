use Rattle.packets_laws.proofs.Going.{played-one}
use Rattle.packets_laws.proofs.laws.at_most_one_processor_has_stopped.Goals as goal

pub returns : goal.returns
returns c = λ site events s played. played-one played

use Rattle.round_laws.specs.Buses.{BusesGo, themselves}
use Rattle.round_laws.proofs.Stretching.{stretch-rounds}
use Rattle.round_laws.proofs.laws.a_stretch_is_made_of_whole_rounds.Goals as goal

pub returns : goal.returns
returns c sizes counts counted = stretch-rounds sizes themselves counts BusesGo (λ s event next g. g) counted

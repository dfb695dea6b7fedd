use Rattle.round_laws.specs.Buses.{BusesGo, themselves}
use Rattle.round_laws.proofs.Delivering.{all-delivered, still-due}
use Rattle.round_laws.proofs.laws.a_whole_round_delivers_all.Goals as goal

pub returns-clause-whole : goal.returns-clause-whole
returns-clause-whole c sizes = all-delivered sizes themselves BusesGo (λ s event next g. g)

pub returns-clause-part : goal.returns-clause-part
returns-clause-part c sizes start s came place = still-due sizes themselves BusesGo (λ s event next g. g) start came
    place s

use Rattle.pair_machine.proofs.Room.{told-counted}
use Rattle.pair_machine.proofs.Steps.{answered}
use Rattle.pair_machine.proofs.whole.MachineParts.enter.Goals as goal

pub tell-requires : goal.tell-requires
tell-requires c = told-counted _ _ _ _ c.in_ok-step.ensures.state c.in_ok-step.ensures.told c.requires.letters

pub returns : goal.returns
returns c = answered _ _ _ _ _ c.in_ok-step.ensures.state c.in_ok-step.ensures.told c.in_ok-effect.ensures

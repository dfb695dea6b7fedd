use Rattle.letter_laws.proofs.Fitting.{letter-fits}
use Rattle.letter_laws.proofs.laws.checkpoints_that_come_fit.Goals as goal

pub returns : goal.returns
returns c = λ site events post letter node fit few played among.
    letter-fits site fit events post few played letter among node

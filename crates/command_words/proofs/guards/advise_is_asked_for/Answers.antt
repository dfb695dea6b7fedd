use Rattle.std.proofs.Common.{refl}
use Rattle.clap.proofs.OnLiterals.{clap_on_literals}
use Rattle.command_words.proofs.guards.advise_is_asked_for.Goals as goal

pub returns-clause-alone : goal.returns-clause-alone
unfolding clap_on_literals
returns-clause-alone c = refl

pub returns-clause-number : goal.returns-clause-number
unfolding clap_on_literals
returns-clause-number c = refl

pub returns-clause-acts : goal.returns-clause-acts
unfolding clap_on_literals
returns-clause-acts c = refl

pub returns-clause-fail : goal.returns-clause-fail
unfolding clap_on_literals
returns-clause-fail c = refl

pub returns-clause-longer : goal.returns-clause-longer
unfolding clap_on_literals
returns-clause-longer c = refl

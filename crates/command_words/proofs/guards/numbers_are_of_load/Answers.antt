use Rattle.std.proofs.Common.{refl}
use Rattle.clap.proofs.OnLiterals.{clap_on_literals}
use Rattle.command_words.proofs.guards.numbers_are_of_load.Goals as goal

pub returns-clause-run : goal.returns-clause-run
unfolding clap_on_literals
returns-clause-run c = refl

pub returns-clause-check : goal.returns-clause-check
unfolding clap_on_literals
returns-clause-check c = refl

pub returns-clause-missing : goal.returns-clause-missing
unfolding clap_on_literals
returns-clause-missing c = refl

pub returns-clause-zero : goal.returns-clause-zero
unfolding clap_on_literals
returns-clause-zero c = refl

pub returns-clause-above : goal.returns-clause-above
unfolding clap_on_literals
returns-clause-above c = refl

pub returns-clause-ten_digits : goal.returns-clause-ten_digits
unfolding clap_on_literals
returns-clause-ten_digits c = refl

pub returns-clause-sign : goal.returns-clause-sign
unfolding clap_on_literals
returns-clause-sign c = refl

pub returns-clause-two : goal.returns-clause-two
unfolding clap_on_literals
returns-clause-two c = refl

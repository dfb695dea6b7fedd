use Rattle.std.proofs.Common.{refl}
use Rattle.clap.proofs.OnLiterals.{clap_on_literals}
use Rattle.command_words.proofs.guards.sweep_is_asked_for.Goals as goal

pub returns-clause-least : goal.returns-clause-least
unfolding clap_on_literals
returns-clause-least c = refl

pub returns-clause-greatest : goal.returns-clause-greatest
unfolding clap_on_literals
returns-clause-greatest c = refl

pub returns-clause-missing : goal.returns-clause-missing
unfolding clap_on_literals
returns-clause-missing c = refl

pub returns-clause-zero : goal.returns-clause-zero
unfolding clap_on_literals
returns-clause-zero c = refl

pub returns-clause-above : goal.returns-clause-above
unfolding clap_on_literals
returns-clause-above c = refl

pub returns-clause-ten_digits : goal.returns-clause-ten_digits
unfolding clap_on_literals
returns-clause-ten_digits c = refl

pub returns-clause-two : goal.returns-clause-two
unfolding clap_on_literals
returns-clause-two c = refl

pub returns-clause-acts : goal.returns-clause-acts
unfolding clap_on_literals
returns-clause-acts c = refl

pub returns-clause-fail : goal.returns-clause-fail
unfolding clap_on_literals
returns-clause-fail c = refl

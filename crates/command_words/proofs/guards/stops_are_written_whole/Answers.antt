use Rattle.std.proofs.Common.{refl}
use Rattle.clap.proofs.OnLiterals.{clap_on_literals}
use Rattle.command_words.proofs.guards.stops_are_written_whole.Goals as goal

pub returns-clause-above : goal.returns-clause-above
unfolding clap_on_literals
returns-clause-above c = refl

pub returns-clause-no_colon : goal.returns-clause-no_colon
unfolding clap_on_literals
returns-clause-no_colon c = refl

pub returns-clause-no_events : goal.returns-clause-no_events
unfolding clap_on_literals
returns-clause-no_events c = refl

pub returns-clause-no_processor : goal.returns-clause-no_processor
unfolding clap_on_literals
returns-clause-no_processor c = refl

pub returns-clause-two_colons : goal.returns-clause-two_colons
unfolding clap_on_literals
returns-clause-two_colons c = refl

pub returns-clause-sign : goal.returns-clause-sign
unfolding clap_on_literals
returns-clause-sign c = refl

pub returns-clause-no_value : goal.returns-clause-no_value
unfolding clap_on_literals
returns-clause-no_value c = refl

pub returns-clause-ten_digits : goal.returns-clause-ten_digits
unfolding clap_on_literals
returns-clause-ten_digits c = refl

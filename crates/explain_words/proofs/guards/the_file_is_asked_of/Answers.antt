use Rattle.std.proofs.Common.{refl}
use Rattle.clap.proofs.OnLiterals.{clap_on_literals}
use Rattle.explain_words.proofs.guards.the_file_is_asked_of.Goals as goal

pub returns-clause-named : goal.returns-clause-named
unfolding clap_on_literals
returns-clause-named c = refl

pub returns-clause-none : goal.returns-clause-none
unfolding clap_on_literals
returns-clause-none c = refl

pub returns-clause-third : goal.returns-clause-third
unfolding clap_on_literals
returns-clause-third c = refl

pub returns-clause-behind_stop : goal.returns-clause-behind_stop
unfolding clap_on_literals
returns-clause-behind_stop c = refl

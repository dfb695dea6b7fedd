use Rattle.std.proofs.Common.{refl}
use Rattle.clap.proofs.OnLiterals.{clap_on_literals}
use Rattle.explain_words.proofs.guards.a_run_that_breaks_is_asked_for.Goals as goal

pub returns-clause-alone : goal.returns-clause-alone
unfolding clap_on_literals
returns-clause-alone c = refl

pub returns-clause-file : goal.returns-clause-file
unfolding clap_on_literals
returns-clause-file c = refl

pub returns-clause-fail : goal.returns-clause-fail
unfolding clap_on_literals
returns-clause-fail c = refl

pub returns-clause-longer : goal.returns-clause-longer
unfolding clap_on_literals
returns-clause-longer c = refl

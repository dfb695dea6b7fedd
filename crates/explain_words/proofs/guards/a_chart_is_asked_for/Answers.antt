use Rattle.std.proofs.Common.{refl}
use Rattle.clap.proofs.OnLiterals.{clap_on_literals}
use Rattle.explain_words.proofs.guards.a_chart_is_asked_for.Goals as goal

pub returns-clause-alone : goal.returns-clause-alone
unfolding clap_on_literals
returns-clause-alone c = refl

pub returns-clause-file : goal.returns-clause-file
unfolding clap_on_literals
returns-clause-file c = refl

pub returns-clause-fail : goal.returns-clause-fail
unfolding clap_on_literals
returns-clause-fail c = refl

pub returns-clause-both : goal.returns-clause-both
unfolding clap_on_literals
returns-clause-both c = refl

pub returns-clause-alive : goal.returns-clause-alive
unfolding clap_on_literals
returns-clause-alive c = refl

pub returns-clause-trace : goal.returns-clause-trace
unfolding clap_on_literals
returns-clause-trace c = refl

pub returns-clause-why : goal.returns-clause-why
unfolding clap_on_literals
returns-clause-why c = refl

pub returns-clause-json : goal.returns-clause-json
unfolding clap_on_literals
returns-clause-json c = refl

pub returns-clause-number : goal.returns-clause-number
unfolding clap_on_literals
returns-clause-number c = refl

pub returns-clause-longer : goal.returns-clause-longer
unfolding clap_on_literals
returns-clause-longer c = refl

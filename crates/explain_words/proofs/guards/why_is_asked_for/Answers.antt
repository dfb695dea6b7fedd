use Rattle.std.proofs.Common.{refl}
use Rattle.clap.proofs.OnLiterals.{clap_on_literals}
use Rattle.explain_words.proofs.guards.why_is_asked_for.Goals as goal

pub returns-clause-alone : goal.returns-clause-alone
unfolding clap_on_literals
returns-clause-alone c = refl

pub returns-clause-nothing_after : goal.returns-clause-nothing_after
unfolding clap_on_literals
returns-clause-nothing_after c = refl

pub returns-clause-after : goal.returns-clause-after
unfolding clap_on_literals
returns-clause-after c = refl

pub returns-clause-file : goal.returns-clause-file
unfolding clap_on_literals
returns-clause-file c = refl

use Rattle.std.proofs.Common.{refl}
use Rattle.clap.proofs.OnLiterals.{clap_on_literals}
use Rattle.command_words.proofs.guards.run_is_asked_for.Goals as goal

pub returns-clause-alone : goal.returns-clause-alone
unfolding clap_on_literals
returns-clause-alone c = refl

pub returns-clause-acts : goal.returns-clause-acts
unfolding clap_on_literals
returns-clause-acts c = refl

pub returns-clause-acts_first : goal.returns-clause-acts_first
unfolding clap_on_literals
returns-clause-acts_first c = refl

pub returns-clause-nothing_after : goal.returns-clause-nothing_after
unfolding clap_on_literals
returns-clause-nothing_after c = refl

pub returns-clause-fail : goal.returns-clause-fail
unfolding clap_on_literals
returns-clause-fail c = refl

pub returns-clause-both : goal.returns-clause-both
unfolding clap_on_literals
returns-clause-both c = refl

pub returns-clause-greatest : goal.returns-clause-greatest
unfolding clap_on_literals
returns-clause-greatest c = refl

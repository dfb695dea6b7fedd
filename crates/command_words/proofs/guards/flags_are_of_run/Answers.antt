use Rattle.std.proofs.Common.{refl}
use Rattle.clap.proofs.OnLiterals.{clap_on_literals}
use Rattle.command_words.proofs.guards.flags_are_of_run.Goals as goal

pub returns-clause-check_acts : goal.returns-clause-check_acts
unfolding clap_on_literals
returns-clause-check_acts c = refl

pub returns-clause-check_fail : goal.returns-clause-check_fail
unfolding clap_on_literals
returns-clause-check_fail c = refl

pub returns-clause-load_acts : goal.returns-clause-load_acts
unfolding clap_on_literals
returns-clause-load_acts c = refl

pub returns-clause-load_fail : goal.returns-clause-load_fail
unfolding clap_on_literals
returns-clause-load_fail c = refl

pub returns-clause-acts_twice : goal.returns-clause-acts_twice
unfolding clap_on_literals
returns-clause-acts_twice c = refl

pub returns-clause-fail_twice : goal.returns-clause-fail_twice
unfolding clap_on_literals
returns-clause-fail_twice c = refl

pub returns-clause-shortened : goal.returns-clause-shortened
unfolding clap_on_literals
returns-clause-shortened c = refl

pub returns-clause-with_value : goal.returns-clause-with_value
unfolding clap_on_literals
returns-clause-with_value c = refl

pub returns-clause-after_dashes : goal.returns-clause-after_dashes
unfolding clap_on_literals
returns-clause-after_dashes c = refl

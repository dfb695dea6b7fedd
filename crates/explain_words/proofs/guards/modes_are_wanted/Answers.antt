use Rattle.clap.proofs.OnLiterals.{clap_on_literals}
use Rattle.clap.specs.declared.error.kind.ErrorKind.TheVariants as kind
use Rattle.explain_words.proofs.RefusedKinds.{one-kind}
use Rattle.explain_words.proofs.guards.modes_are_wanted.Goals as goal

pub returns-clause-none : goal.returns-clause-none
unfolding clap_on_literals
returns-clause-none c = λ question asked. one-kind kind.MissingRequiredArgument question asked

pub returns-clause-no_name : goal.returns-clause-no_name
unfolding clap_on_literals
returns-clause-no_name c = λ question asked. one-kind kind.MissingRequiredArgument question asked

pub returns-clause-flag : goal.returns-clause-flag
unfolding clap_on_literals
returns-clause-flag c = λ question asked. one-kind kind.UnknownArgument question asked

pub returns-clause-other : goal.returns-clause-other
unfolding clap_on_literals
returns-clause-other c = λ question asked. asked

pub returns-clause-upper : goal.returns-clause-upper
unfolding clap_on_literals
returns-clause-upper c = λ question asked. asked

pub returns-clause-longer : goal.returns-clause-longer
unfolding clap_on_literals
returns-clause-longer c = λ question asked. asked

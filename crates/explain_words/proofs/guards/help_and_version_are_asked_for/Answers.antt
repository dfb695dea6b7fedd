use Rattle.clap.proofs.OnLiterals.{clap_on_literals}
use Rattle.clap.specs.declared.error.kind.ErrorKind.TheVariants as kind
use Rattle.explain_words.proofs.RefusedKinds.{one-kind}
use Rattle.explain_words.proofs.guards.help_and_version_are_asked_for.Goals as goal

pub returns-clause-help : goal.returns-clause-help
unfolding clap_on_literals
returns-clause-help c = λ question asked. one-kind kind.DisplayHelp question asked

pub returns-clause-with_mode : goal.returns-clause-with_mode
unfolding clap_on_literals
returns-clause-with_mode c = λ question asked. one-kind kind.DisplayHelp question asked

pub returns-clause-version : goal.returns-clause-version
unfolding clap_on_literals
returns-clause-version c = λ question asked. one-kind kind.DisplayVersion question asked

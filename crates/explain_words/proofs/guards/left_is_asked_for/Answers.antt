use Rattle.std.proofs.Common.{refl}
use Rattle.clap.proofs.OnLiterals.{clap_on_literals}
use Rattle.clap.specs.declared.error.kind.ErrorKind.TheVariants as kind
use Rattle.explain_words.proofs.RefusedKinds.{one-kind}
use Rattle.explain_words.proofs.guards.left_is_asked_for.Goals as goal

pub returns-clause-alone : goal.returns-clause-alone
unfolding clap_on_literals
returns-clause-alone c = refl

pub returns-clause-file : goal.returns-clause-file
unfolding clap_on_literals
returns-clause-file c = refl

pub returns-clause-fail : goal.returns-clause-fail
unfolding clap_on_literals
returns-clause-fail c = refl

pub returns-clause-before : goal.returns-clause-before
unfolding clap_on_literals
returns-clause-before c = refl

pub returns-clause-behind : goal.returns-clause-behind
unfolding clap_on_literals
returns-clause-behind c = refl

pub returns-clause-colon : goal.returns-clause-colon
unfolding clap_on_literals
returns-clause-colon c = refl

pub returns-clause-above : goal.returns-clause-above
unfolding clap_on_literals
returns-clause-above c = refl

pub returns-clause-why : goal.returns-clause-why
unfolding clap_on_literals
returns-clause-why c = refl

pub returns-clause-longer : goal.returns-clause-longer
unfolding clap_on_literals
returns-clause-longer c = refl

pub returns-clause-no_value : goal.returns-clause-no_value
unfolding clap_on_literals
returns-clause-no_value c = λ question asked. one-kind kind.InvalidValue question asked

pub returns-clause-twice : goal.returns-clause-twice
unfolding clap_on_literals
returns-clause-twice c = λ question asked. one-kind kind.ArgumentConflict question asked

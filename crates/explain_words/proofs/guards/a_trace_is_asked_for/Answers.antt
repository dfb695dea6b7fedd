use Rattle.std.proofs.Common.{refl}
use Rattle.clap.proofs.OnLiterals.{clap_on_literals}
use Rattle.clap.specs.declared.error.kind.ErrorKind.TheVariants as kind
use Rattle.explain_words.proofs.RefusedKinds.{one-kind}
use Rattle.explain_words.proofs.guards.a_trace_is_asked_for.Goals as goal

pub returns-clause-alone : goal.returns-clause-alone
unfolding clap_on_literals
returns-clause-alone c = refl

pub returns-clause-file : goal.returns-clause-file
unfolding clap_on_literals
returns-clause-file c = refl

pub returns-clause-fail : goal.returns-clause-fail
unfolding clap_on_literals
returns-clause-fail c = refl

pub returns-clause-first : goal.returns-clause-first
unfolding clap_on_literals
returns-clause-first c = refl

pub returns-clause-last : goal.returns-clause-last
unfolding clap_on_literals
returns-clause-last c = refl

pub returns-clause-both : goal.returns-clause-both
unfolding clap_on_literals
returns-clause-both c = refl

pub returns-clause-json : goal.returns-clause-json
unfolding clap_on_literals
returns-clause-json c = refl

pub returns-clause-number : goal.returns-clause-number
unfolding clap_on_literals
returns-clause-number c = refl

pub returns-clause-colon : goal.returns-clause-colon
unfolding clap_on_literals
returns-clause-colon c = refl

pub returns-clause-left : goal.returns-clause-left
unfolding clap_on_literals
returns-clause-left c = refl

pub returns-clause-why : goal.returns-clause-why
unfolding clap_on_literals
returns-clause-why c = refl

pub returns-clause-why_json : goal.returns-clause-why_json
unfolding clap_on_literals
returns-clause-why_json c = refl

pub returns-clause-longer : goal.returns-clause-longer
unfolding clap_on_literals
returns-clause-longer c = refl

pub returns-clause-no_value : goal.returns-clause-no_value
unfolding clap_on_literals
returns-clause-no_value c = λ question asked. one-kind kind.InvalidValue question asked

use Rattle.std.proofs.Common.{ap, ◌∙◌}
use Rattle.tal_syntax.specs.Seen.{seen_neg}
use Rattle.tal_syntax.proofs.SeenSteps.{seen-not}
use Rattle.tal_builder.proofs.expression_parts.negated_of.Goals as goal

pub returns : goal.returns
returns c = ap seen_neg c.in_ok-neg.ensures ∙ seen-not c.args.at c.args.inner

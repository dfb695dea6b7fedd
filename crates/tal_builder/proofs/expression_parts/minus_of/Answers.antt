use Rattle.std.proofs.Common.{ap, ◌∙◌}
use Rattle.tal_syntax.specs.Seen.{seen_factor}
use Rattle.tal_syntax.proofs.SeenSteps.{seen-minus}
use Rattle.tal_builder.proofs.expression_parts.minus_of.Goals as goal

pub returns : goal.returns
returns c = ap seen_factor c.in_ok-factor.ensures ∙ seen-minus c.args.at c.args.inner

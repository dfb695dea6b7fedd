use Rattle.std.proofs.Common.{ap, ◌∙◌}
use Rattle.tal_syntax.specs.Seen.{seen_factor}
use Rattle.tal_syntax.proofs.SeenSteps.{seen-parens}
use Rattle.tal_builder.proofs.expression_parts.parens_of.Goals as goal

pub returns : goal.returns
returns c = ap seen_factor c.in_ok-factor.ensures ∙ seen-parens c.args.start c.args.inner c.args.close

use Rattle.std.proofs.Common.{ap, ◌∙◌}
use Rattle.tal_syntax.specs.Seen.{seen_statement}
use Rattle.tal_syntax.proofs.SeenSteps.{seen-while}
use Rattle.tal_builder.proofs.statement_parts.while_of.Goals as goal

pub returns : goal.returns
returns c = ap seen_statement c.in_ok-statement.ensures ∙ seen-while c.args.test c.args.inner

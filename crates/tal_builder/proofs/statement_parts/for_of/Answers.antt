use Rattle.std.proofs.Common.{ap, ◌∙◌}
use Rattle.tal_syntax.specs.Seen.{seen_statement}
use Rattle.tal_syntax.proofs.SeenSteps.{seen-for}
use Rattle.tal_builder.proofs.statement_parts.for_of.Goals as goal

pub returns : goal.returns
returns c = ap seen_statement c.in_ok-statement.ensures ∙ seen-for c.args.counted c.args.inner

use Rattle.std.proofs.Common.{ap, ◌∙◌}
use Rattle.tal_syntax.specs.Seen.{seen_statement}
use Rattle.tal_syntax.proofs.SeenSteps.{seen-if}
use Rattle.tal_builder.proofs.statement_parts.if_of.Goals as goal

pub returns : goal.returns
returns c = ap seen_statement c.in_ok-statement.ensures ∙ seen-if c.args.test c.args.inner c.args.otherwise

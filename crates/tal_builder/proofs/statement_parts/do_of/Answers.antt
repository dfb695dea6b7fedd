use Rattle.std.proofs.Common.{ap, ◌∙◌}
use Rattle.tal_syntax.specs.Seen.{seen_statement}
use Rattle.tal_syntax.proofs.SeenSteps.{seen-do}
use Rattle.tal_builder.proofs.statement_parts.do_of.Goals as goal

pub returns : goal.returns
returns c = ap seen_statement c.in_ok-statement.ensures ∙ seen-do c.args.inner c.args.until

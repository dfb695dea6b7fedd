use Rattle.std.proofs.Common.{ap, ◌∙◌}
use Rattle.tal_syntax.specs.Seen.{seen_statement}
use Rattle.tal_syntax.proofs.SeenSteps.{seen-block}
use Rattle.tal_builder.proofs.statement_parts.block_of.Goals as goal

pub returns : goal.returns
returns c = ap seen_statement c.in_ok-statement.ensures ∙ seen-block c.args.begin c.args.first c.args.more c.args.end

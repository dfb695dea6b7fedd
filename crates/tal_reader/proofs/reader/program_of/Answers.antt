use Rattle.std.proofs.Common.{inr}
use Rattle.tal_builder.specs.tal_syntax.specs.Seen.{seen_text}
use Rattle.tal_reader.proofs.reader.program_of.Goals as goal

pub returns-in-Ok : goal.returns-in-Ok
returns-in-Ok c = inr (seen_text c.in-Ok.syntax, c.in-Ok.ensures, c.tree.ensures)

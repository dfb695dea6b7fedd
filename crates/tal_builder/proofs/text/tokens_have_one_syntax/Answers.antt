use Rattle.tal_builder.proofs.Exact.{one_syntax}
use Rattle.tal_builder.proofs.text.tokens_have_one_syntax.Goals as goal

pub returns : goal.returns
returns c = one_syntax

use Rattle.tal_builder.proofs.Exact.{built}
use Rattle.tal_builder.proofs.text.build.Goals as goal

pub returns : goal.returns
returns c = built c.args.tokens.now c.whole.result c.whole.ensures

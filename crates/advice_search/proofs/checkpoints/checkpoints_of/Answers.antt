use Rattle.std.proofs.Common.{arith}
use Rattle.std.proofs.lemmas.Grind.{common_steps}
use Rattle.advice_search.proofs.Places.{all-places}
use Rattle.advice_search.proofs.checkpoints.checkpoints_of.Goals as goal

pub returns : goal.returns
returns c = rw (← all-places c.args.program.now.procedures) (grind (arith, common_steps))

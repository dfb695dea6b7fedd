use Rattle.std.proofs.Common.{ap, length, arith}
use Rattle.plain_semantics.proofs.Few.{openers-few}
use Rattle.plain_semantics.proofs.opening.openers.Goals as goal

pub returns-clause-few : goal.returns-clause-few
returns-clause-few c =
    omega (arith, openers-few c.args.site.now c.args.process c.requires, ap length c.in_ok-all.ensures)

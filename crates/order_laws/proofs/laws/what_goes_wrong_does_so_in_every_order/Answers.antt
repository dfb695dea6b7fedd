use Rattle.order_laws.proofs.Verdicts.{no-wrong}
use Rattle.order_laws.proofs.laws.what_goes_wrong_does_so_in_every_order.Goals as goal

pub returns : goal.returns
returns c = λ site acts order shown idle wrong is sound. no-wrong site acts order shown idle sound wrong is

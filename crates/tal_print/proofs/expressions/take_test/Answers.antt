use Rattle.std.proofs.Common.{refl}
use Rattle.tal_pieces.proofs.Values.Layers.{pieces_not}
use Rattle.tal_print.proofs.expressions.take_test.Goals as goal

pub returns-in_ok-put-in-Not-clause-pieces : goal.returns-in_ok-put-in-Not-clause-pieces
returns-in_ok-put-in-Not-clause-pieces c = rw (c.in_ok-put-in-Not.ensures, c.in-Not.is, pieces_not, c.get.ensures) refl

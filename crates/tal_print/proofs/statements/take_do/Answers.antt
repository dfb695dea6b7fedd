use Rattle.std.proofs.Common.{refl, arith}
use Rattle.tal_pieces.proofs.Values.Layers.{pieces_do, weight_do}
use Rattle.tal_print.proofs.statements.take_do.Goals as goal

pub returns-clause-pieces : goal.returns-clause-pieces
returns-clause-pieces c =
    rw (c.in_ok-put.ensures, pieces_do, c.as_slice.ensures) refl

pub returns-clause-less : goal.returns-clause-less
returns-clause-less c =
    rw (c.in_ok-put.ensures, weight_do, c.as_slice.ensures) (omega arith)

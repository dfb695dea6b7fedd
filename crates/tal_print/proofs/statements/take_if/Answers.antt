use Rattle.std.proofs.Common.{refl, arith}
use Rattle.tal_pieces.proofs.Values.Layers.{pieces_if, weight_if}
use Rattle.tal_print.proofs.statements.take_if.Goals as goal

pub returns-clause-pieces : goal.returns-clause-pieces
returns-clause-pieces c =
    rw (c.in_ok-put.ensures, pieces_if, c.as_slice.ensures, c.as_slice-2.ensures) refl

pub returns-clause-less : goal.returns-clause-less
returns-clause-less c =
    rw (c.in_ok-put.ensures, weight_if, c.as_slice.ensures, c.as_slice-2.ensures) (omega arith)

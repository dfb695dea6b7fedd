use Rattle.std.proofs.Common.{refl}
use Rattle.tal_pieces.proofs.Values.Layers.{pieces_read, pieces_minus}
use Rattle.tal_print.proofs.expressions.take_value.Goals as goal

pub returns-in_ok-put-in-Read-clause-pieces : goal.returns-in_ok-put-in-Read-clause-pieces
returns-in_ok-put-in-Read-clause-pieces c =
    rw (c.in_ok-put-in-Read.ensures, c.in-Read.is, pieces_read, c.get.ensures) refl

pub returns-in_ok-put-in-Minus-clause-pieces : goal.returns-in_ok-put-in-Minus-clause-pieces
returns-in_ok-put-in-Minus-clause-pieces c =
    rw (c.in_ok-put-in-Minus.ensures, c.in-Minus.is, pieces_minus, c.get-in-Minus.ensures) refl

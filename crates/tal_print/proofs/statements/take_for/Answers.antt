use Rattle.std.proofs.Common.{refl, arith}
use Rattle.std.proofs.lemmas.Int.{to_z-of_z}
use Rattle.std.specs.Int.{w16}
use Rattle.tal_pieces.proofs.Values.Layers.{pieces_for, weight_for}
use Rattle.tal_print.proofs.statements.take_for.Goals as goal

pub returns-clause-pieces : goal.returns-clause-pieces
returns-clause-pieces c last =
    rw (
      c.in_ok-put.ensures,
      pieces_for,
      c.as_slice.ensures,
      c.variable_name.ensures,
      c.direction_word.ensures,
      to_z-of_z w16 c.args.step c.ranges.step,
    ) refl

pub returns-clause-less : goal.returns-clause-less
returns-clause-less c last =
    rw (c.in_ok-put.ensures, weight_for, c.as_slice.ensures) (omega arith)

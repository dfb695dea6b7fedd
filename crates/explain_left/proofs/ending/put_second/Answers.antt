use Rattle.std.proofs.Common.{[], ◌∷◌}
use Rattle.std.specs.Prelude.{codes}
use Rattle.std.specs.Fmt.{decimal}
use Rattle.text_pieces.proofs.Joins.{put_three}
use Rattle.explain_left.proofs.ending.put_second.Goals as goal

pub returns : goal.returns
returns c =
    let number = rw c.from.ensures at c.in_ok-put_number.ensures in
    put_three c.args.text.now (codes "the run ended before a second stop, of processor ")
    (decimal c.args.processor) (10 ∷ []) c.put-2.new.text c.put-2.result c.in_ok-put.ensures number c.put-2.ensures

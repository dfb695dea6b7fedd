use Rattle.std.proofs.Common.{[], ◌∷◌}
use Rattle.std.specs.Prelude.{codes}
use Rattle.std.specs.Fmt.{decimal}
use Rattle.text_pieces.proofs.Joins.{put_three}
use Rattle.break_text.proofs.whole.put_tried.Goals as goal

pub returns : goal.returns
returns c =
    put_three c.args.text.now (codes "no run breaks of those that were tried: ") (decimal c.args.runs) (10 ∷ [])
    c.put-2.new.text c.put-2.result c.in_ok-put.ensures c.in_ok-put_number.ensures c.put-2.ensures

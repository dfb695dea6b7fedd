use Rattle.std.proofs.Common.{[], ◌∷◌, ◌++◌}
use Rattle.std.specs.Prelude.{codes}
use Rattle.std.specs.Fmt.{decimal}
use Rattle.text_pieces.proofs.Joins.{put_four}
use Rattle.break_progress.proofs.line.put_tried.Goals as goal

pub returns : goal.returns
returns c =
    put_four c.args.text.now (decimal c.args.runs) (codes " of ") (decimal c.args.total)
    (codes " runs are tried, and none of them breaks" ++ 10 ∷ [])
    c.put-2.new.text c.put-2.result c.in_ok-put_number.ensures c.in_ok-put.ensures c.in_ok-put_number-2.ensures
    c.put-2.ensures

use Rattle.std.proofs.Common.{[], ◌∷◌}
use Rattle.std.specs.Prelude.{codes}
use Rattle.std.specs.Fmt.{decimal}
use Rattle.text_pieces.proofs.Joins.{put_three}
use Rattle.left_text.proofs.process_ends.put_count.Goals as goal

pub returns : goal.returns
returns c =
    put_three c.args.text.now (codes "         requests that wait for it: ") (decimal c.args.count) (10 ∷ [])
    c.put-2.new.text c.put-2.result c.in_ok-put.ensures c.in_ok-put_number.ensures c.put-2.ensures

use Rattle.std.proofs.Common.{[], ◌∷◌, ◌++◌}
use Rattle.std.specs.Prelude.{codes}
use Rattle.text_pieces.proofs.Joins.{put_three}
use Rattle.finding_text.proofs.pairs.put_praise.Goals as goal

pub returns : goal.returns
returns c =
    put_three c.args.text.now (codes "the program of ") c.args.name.now (codes " is accepted" ++ 10 ∷ [])
    c.put-3.new.text c.put-3.result c.in_ok-put.ensures c.in_ok-put-2.ensures c.put-3.ensures

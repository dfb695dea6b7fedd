use Rattle.std.proofs.Common.{[], ◌∷◌}
use Rattle.std.specs.Prelude.{codes}
use Rattle.finding_text.specs.Lacking.{names_text}
use Rattle.text_pieces.proofs.Joins.{put_three}
use Rattle.finding_text.proofs.carried.put_unneeded.Goals as goal

pub returns : goal.returns
returns c =
    put_three c.args.text.now (codes "         needn't name ") (names_text c.args.program.now c.args.needless.now)
    (10 ∷ [])
    c.put-2.new.text c.put-2.result c.in_ok-put.ensures c.in_ok-put_names.ensures c.put-2.ensures

use Rattle.std.proofs.Common.{[], ◌∷◌, ◌++◌}
use Rattle.std.specs.Prelude.{codes}
use Rattle.finding_text.specs.Lacking.{names_text}
use Rattle.text_pieces.proofs.Joins.{put_three}
use Rattle.finding_text.proofs.lacking.put_call.Goals as goal

pub returns : goal.returns
returns c =
    put_three c.args.text.now (codes "         CALL CHECKPOINT(") (names_text c.args.program.now c.args.all.now)
    (codes ");" ++ 10 ∷ [])
    c.put-2.new.text c.put-2.result c.in_ok-put.ensures c.in_ok-put_names.ensures c.put-2.ensures

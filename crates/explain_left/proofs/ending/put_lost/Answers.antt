use Rattle.std.proofs.Common.{[], ◌∷◌, ◌++◌}
use Rattle.std.specs.Prelude.{codes}
use Rattle.text_pieces.proofs.Joins.{put_three}
use Rattle.explain_left.specs.LeftRuns.{name_of}
use Rattle.explain_left.proofs.ending.put_lost.Goals as goal

pub returns : goal.returns
returns c =
    let name = rw c.name_of.ensures at c.in_ok-put-2.ensures in
    put_three c.args.text.now (codes "the run ended before the last drive of ")
    (name_of c.args.site.now c.args.process) (codes " would have failed" ++ 10 ∷ []) c.put-3.new.text c.put-3.result
    c.in_ok-put.ensures name c.put-3.ensures

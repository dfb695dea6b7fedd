use Rattle.std.proofs.Common.{[], ◌∷◌, ◌++◌}
use Rattle.std.specs.Prelude.{codes}
use Rattle.finding_text.specs.Steps.{path_text}
use Rattle.text_pieces.proofs.Joins.{put_two}
use Rattle.finding_text.proofs.pairs.put_way.Goals as goal

pub returns : goal.returns
returns c =
    put_two c.args.text.now (codes "a shortest way there, by lines of the deck:" ++ 10 ∷ [])
    (path_text c.args.bytes.now c.args.program.now c.args.found.now c.args.way c.args.path.now)
    c.put_path.new.text c.put_path.result c.in_ok-put.ensures c.put_path.ensures

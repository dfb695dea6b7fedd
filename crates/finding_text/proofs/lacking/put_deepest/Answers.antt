use Rattle.std.proofs.Common.{[], ◌∷◌, ◌++◌}
use Rattle.std.specs.Prelude.{codes}
use Rattle.finding_text.specs.Names.{file_name}
use Rattle.text_pieces.proofs.Joins.{put_three}
use Rattle.finding_text.proofs.lacking.put_deepest.Goals as goal

pub returns : goal.returns
returns c =
    let asked = rw c.from.ensures at c.in_ok-put_file.ensures in
    put_three c.args.text.now (codes ", since an OPEN keeps 4 replies at most, and ")
    (file_name c.args.program.now c.args.file) (codes " is asked a fifth time there" ++ 10 ∷ [])
    c.put-2.new.text c.put-2.result c.in_ok-put.ensures asked c.put-2.ensures

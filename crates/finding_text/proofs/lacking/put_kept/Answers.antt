use Rattle.std.proofs.Common.{[], ◌∷◌, ◌++◌}
use Rattle.std.specs.Prelude.{codes}
use Rattle.std.specs.Fmt.{decimal}
use Rattle.finding_text.specs.Names.{file_name}
use Rattle.text_pieces.proofs.Joins.{put_five}
use Rattle.finding_text.proofs.lacking.put_kept.Goals as goal

pub returns : goal.returns
returns c =
    let number = rw c.from.ensures at c.in_ok-put_number.ensures in
    put_five c.args.text.now (codes "lacking: the OPEN of ") (file_name c.args.program.now c.args.file)
    (codes " has to keep ") (decimal c.args.depth) (codes " replies" ++ 10 ∷ [])
    c.put-3.new.text c.put-3.result c.in_ok-put.ensures c.in_ok-put_file.ensures c.in_ok-put-2.ensures number
    c.put-3.ensures

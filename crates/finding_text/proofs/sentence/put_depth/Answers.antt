use Rattle.std.specs.Prelude.{codes}
use Rattle.finding_text.specs.Names.{file_name}
use Rattle.text_pieces.proofs.Joins.{put_four}
use Rattle.finding_text.proofs.sentence.put_depth.Goals as goal

pub returns : goal.returns
returns c =
    let asked = rw c.from.ensures at c.in_ok-put_file.ensures in
    put_four c.args.text.now c.args.name.now (codes " asks the file ") (file_name c.args.program.now c.args.file)
    (codes " more often than its OPEN keeps replies, and no CHECKPOINT comes between")
    c.put-3.new.text c.put-3.result c.in_ok-put.ensures c.in_ok-put-2.ensures asked c.put-3.ensures

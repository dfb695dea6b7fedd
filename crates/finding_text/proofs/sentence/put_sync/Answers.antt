use Rattle.std.specs.Prelude.{codes}
use Rattle.finding_text.specs.Names.{file_name}
use Rattle.text_pieces.proofs.Joins.{put_five}
use Rattle.finding_text.proofs.sentence.put_sync.Goals as goal

pub returns : goal.returns
returns c =
    let asked = rw c.from.ensures at c.in_ok-put_file.ensures in
    put_five c.args.text.now (codes "a CHECKPOINT of ") c.args.name.now (codes " doesn't name the file ")
    (file_name c.args.program.now c.args.file) (codes ", which was asked before it")
    c.put-4.new.text c.put-4.result c.in_ok-put.ensures c.in_ok-put-2.ensures c.in_ok-put-3.ensures asked
    c.put-4.ensures

use Rattle.std.specs.Prelude.{codes}
use Rattle.finding_text.specs.Names.{file_name}
use Rattle.text_pieces.proofs.Joins.{put_two}
use Rattle.finding_text.proofs.steps.put_one_too_many.Goals as goal

pub returns : goal.returns
returns c =
    let asked = rw c.from.ensures at c.put_file.ensures in
    put_two c.args.text.now (codes "   <- is one too many for ") (file_name c.args.program.now c.args.file)
    c.put_file.new.text c.put_file.result c.in_ok-put.ensures asked

use Rattle.std.specs.Prelude.{codes}
use Rattle.svg_text.specs.Sheets.{root_text}
use Rattle.text_pieces.proofs.Joins.{put_two}
use Rattle.svg_text.proofs.sheets.put_drawing.Goals as goal

pub returns : goal.returns
returns c =
    put_two c.args.text.now (root_text c.args.drawing.now) (codes "\n") c.put.new.text c.put.result
    c.in_ok-put_root.ensures c.put.ensures

use Rattle.std.specs.Prelude.{codes}
use Rattle.svg_text.specs.Sheets.{root_attributes, sheet_text}
use Rattle.text_pieces.proofs.Joins.{put_five}
use Rattle.svg_text.proofs.sheets.put_root.Goals as goal

pub returns : goal.returns
returns c =
    put_five c.args.text.now (codes "<svg") (root_attributes c.args.drawing.now.width c.args.drawing.now.height)
    (codes ">") (sheet_text c.args.drawing.now) (codes "</svg>") c.put-3.new.text c.put-3.result
    c.in_ok-put.ensures c.in_ok-put_root_attributes.ensures c.in_ok-put-2.ensures c.in_ok-put_sheet.ensures
    c.put-3.ensures

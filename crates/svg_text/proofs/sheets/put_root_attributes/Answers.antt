use Rattle.std.specs.Prelude.{codes}
use Rattle.svg_text.specs.Escapes.{numbered, worded}
use Rattle.svg_text.specs.Sheets.{view_box}
use Rattle.text_pieces.proofs.Joins.{put_four}
use Rattle.svg_text.proofs.sheets.put_root_attributes.Goals as goal

pub returns : goal.returns
returns c =
    put_four c.args.text.now (worded (codes "xmlns") (codes "http://www.w3.org/2000/svg"))
    (numbered (codes "width") c.args.width) (numbered (codes "height") c.args.height)
    (worded (codes "viewBox") (view_box c.args.width c.args.height)) c.put_view_box.new.text c.put_view_box.result
    c.in_ok-put_attribute.ensures c.in_ok-put_number.ensures c.in_ok-put_number-2.ensures c.put_view_box.ensures

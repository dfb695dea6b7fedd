use Rattle.std.specs.Prelude.{codes}
use Rattle.svg_text.specs.Sheets.{marker_attributes, path_text}
use Rattle.text_pieces.proofs.Joins.{put_five}
use Rattle.svg_text.proofs.arrows.put_head.Goals as goal

pub returns : goal.returns
returns c =
    put_five c.args.text.now (codes "<defs><marker") marker_attributes (codes ">") path_text
    (codes "</marker></defs>") c.put-3.new.text c.put-3.result c.in_ok-put.ensures
    c.in_ok-put_marker_attributes.ensures c.in_ok-put-2.ensures c.in_ok-put_path.ensures c.put-3.ensures

use Rattle.std.specs.Prelude.{codes}
use Rattle.svg_text.specs.Escapes.{worded}
use Rattle.text_pieces.proofs.Joins.{put_four}
use Rattle.svg_text.proofs.arrows.put_marker_place.Goals as goal

pub returns : goal.returns
returns c =
    put_four c.args.text.now (worded (codes "id") (codes "head")) (worded (codes "viewBox") (codes "0 0 8 8"))
    (worded (codes "refX") (codes "8")) (worded (codes "refY") (codes "4")) c.put_attribute-4.new.text
    c.put_attribute-4.result c.in_ok-put_attribute.ensures c.in_ok-put_attribute-2.ensures
    c.in_ok-put_attribute-3.ensures c.put_attribute-4.ensures

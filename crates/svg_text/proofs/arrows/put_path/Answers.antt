use Rattle.std.specs.Prelude.{codes}
use Rattle.svg_text.specs.Escapes.{worded}
use Rattle.text_pieces.proofs.Joins.{put_three}
use Rattle.svg_text.proofs.arrows.put_path.Goals as goal

pub returns : goal.returns
returns c =
    put_three c.args.text.now (codes "<path") (worded (codes "d") (codes "M0 1L8 4L0 7z")) (codes "/>")
    c.put-2.new.text c.put-2.result c.in_ok-put.ensures c.in_ok-put_attribute.ensures c.put-2.ensures

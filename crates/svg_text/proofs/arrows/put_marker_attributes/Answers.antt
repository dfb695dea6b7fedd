use Rattle.svg_text.specs.Sheets.{marker_place, marker_size}
use Rattle.text_pieces.proofs.Joins.{put_two}
use Rattle.svg_text.proofs.arrows.put_marker_attributes.Goals as goal

pub returns : goal.returns
returns c =
    put_two c.args.text.now marker_place marker_size c.put_marker_size.new.text c.put_marker_size.result
    c.in_ok-put_marker_place.ensures c.put_marker_size.ensures

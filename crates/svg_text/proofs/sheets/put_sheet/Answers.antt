use Rattle.std.proofs.Common.{flat_map}
use Rattle.std.specs.Prelude.{codes}
use Rattle.svg_text.specs.Shapes.{group_text}
use Rattle.svg_text.specs.Sheets.{head_text, style_sheet}
use Rattle.text_pieces.proofs.Joins.{put_five}
use Rattle.svg_text.proofs.sheets.put_sheet.Goals as goal

pub returns : goal.returns
returns c =
    let groups = rw c.as_slice.ensures at c.put_groups.ensures in
    put_five c.args.text.now style_sheet head_text (codes "\n") (group_text c.args.drawing.now.under)
    (flat_map group_text c.args.drawing.now.groups) c.put_groups.new.text c.put_groups.result
    c.in_ok-put_style_sheet.ensures c.in_ok-put_head.ensures c.in_ok-put.ensures c.in_ok-put_group.ensures groups

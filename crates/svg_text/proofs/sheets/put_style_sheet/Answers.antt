use Rattle.std.specs.Prelude.{codes}
use Rattle.svg_text.specs.Looks.{style_text}
use Rattle.text_pieces.proofs.Joins.{put_three}
use Rattle.svg_text.proofs.sheets.put_style_sheet.Goals as goal

pub returns : goal.returns
returns c =
    put_three c.args.text.now (codes "<style>") style_text (codes "</style>") c.put-2.new.text c.put-2.result
    c.in_ok-put.ensures c.in_ok-put_style.ensures c.put-2.ensures

use Rattle.std.specs.Prelude.{codes}
use Rattle.finding_text.specs.Names.{item_name}
use Rattle.text_pieces.proofs.Joins.{put_two}
use Rattle.finding_text.proofs.steps.put_unnamed_item.Goals as goal

pub returns : goal.returns
returns c =
    put_two c.args.text.now (codes "   <- doesn't name ") (item_name c.args.program.now c.args.item)
    c.put_item.new.text c.put_item.result c.in_ok-put.ensures c.put_item.ensures

use Rattle.std.specs.Prelude.{codes}
use Rattle.finding_text.specs.Names.{item_name}
use Rattle.text_pieces.proofs.Joins.{put_five}
use Rattle.finding_text.proofs.sentence.put_data.Goals as goal

pub returns : goal.returns
returns c =
    put_five c.args.text.now (codes "a CHECKPOINT of ") c.args.name.now (codes " doesn't name ")
    (item_name c.args.program.now c.args.item) (codes ", which was set before it")
    c.put-4.new.text c.put-4.result c.in_ok-put.ensures c.in_ok-put-2.ensures c.in_ok-put-3.ensures
    c.in_ok-put_item.ensures c.put-4.ensures

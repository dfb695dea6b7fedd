use Rattle.std.specs.Prelude.{codes}
use Rattle.std.specs.Fmt.{decimal}
use Rattle.text_pieces.proofs.Joins.{put_five}
use Rattle.finding_text.proofs.sentence.put_size.Goals as goal

pub returns : goal.returns
returns c =
    let number = rw c.from.ensures at c.in_ok-put_number.ensures in
    put_five c.args.text.now (codes "with its calls written out ") c.args.name.now (codes " has ")
    (decimal c.args.size) (codes " statements, and 8,192 is the limit")
    c.put-4.new.text c.put-4.result c.in_ok-put.ensures c.in_ok-put-2.ensures c.in_ok-put-3.ensures number
    c.put-4.ensures

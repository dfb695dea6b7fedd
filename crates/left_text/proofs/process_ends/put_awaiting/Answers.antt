use Rattle.std.proofs.Common.{[], ◌∷◌}
use Rattle.std.specs.Prelude.{codes}
use Rattle.std.specs.Fmt.{decimal}
use Rattle.text_pieces.proofs.Joins.{put_five}
use Rattle.left_text.proofs.process_ends.put_awaiting.Goals as goal

pub returns : goal.returns
returns c =
    let number = rw c.from.ensures at c.in_ok-put_number.ensures in
    put_five c.args.text.now (codes " waits for the reply to request ") (decimal c.args.number)
    (codes ", which it asked of ") c.args.server.now (10 ∷ [])
    c.put-4.new.text c.put-4.result c.in_ok-put.ensures number c.in_ok-put-2.ensures c.in_ok-put-3.ensures
    c.put-4.ensures

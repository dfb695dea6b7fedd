use Rattle.std.proofs.Common.{[], ◌∷◌}
use Rattle.std.specs.Prelude.{codes}
use Rattle.std.specs.Fmt.{decimal}
use Rattle.text_pieces.proofs.Joins.{put_five}
use Rattle.break_text.proofs.whole.put_asked.Goals as goal

pub returns : goal.returns
returns c =
    let places = rw c.from.ensures at c.in_ok-put_number.ensures in
    put_five c.args.text.now (codes "  with each processor stopped before each of the first ") (decimal c.args.places)
    (codes " events; the run with no stop asks for ") (decimal c.args.asked) (10 ∷ [])
    c.put-3.new.text c.put-3.result c.in_ok-put.ensures places c.in_ok-put-2.ensures c.in_ok-put_number-2.ensures
    c.put-3.ensures

use Rattle.std.proofs.Common.{[], ◌∷◌, ◌++◌}
use Rattle.std.specs.Prelude.{codes}
use Rattle.std.specs.Fmt.{decimal}
use Rattle.text_pieces.proofs.Joins.{put_five}
use Rattle.break_text.proofs.broken.put_stopped.Goals as goal

pub returns : goal.returns
returns c =
    let processor = rw c.from.ensures at c.in_ok-put_number.ensures in
    let after = rw c.from-2.ensures at c.in_ok-put_number-2.ensures in
    put_five c.args.text.now (codes "a run breaks in which processor ") (decimal c.args.stop.processor)
    (codes " stops after ") (decimal c.args.stop.after) (codes " events:" ++ 10 ∷ [])
    c.put-3.new.text c.put-3.result c.in_ok-put.ensures processor c.in_ok-put-2.ensures after c.put-3.ensures

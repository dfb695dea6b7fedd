use Rattle.std.proofs.Common.{[], ◌∷◌}
use Rattle.std.proofs.lemmas.Int.{to_z-of_z}
use Rattle.std.specs.Int.{w16}
use Rattle.std.specs.Prelude.{codes}
use Rattle.std.specs.Fmt.{signed_decimal}
use Rattle.text_pieces.proofs.Joins.{put_five}
use Rattle.left_text.proofs.reasons.put_bounds.Goals as goal

pub returns : goal.returns
returns c =
    let low = rw (to_z-of_z w16 c.args.low c.ranges.low) at c.in_ok-put_word.ensures in
    let high = rw (to_z-of_z w16 c.args.high c.ranges.high) at c.in_ok-put_word-2.ensures in
    put_five c.args.text.now (codes " is out of the bounds ") (signed_decimal c.args.low) (codes " to ")
    (signed_decimal c.args.high) (10 ∷ []) c.put-3.new.text c.put-3.result c.in_ok-put.ensures low
    c.in_ok-put-2.ensures high c.put-3.ensures

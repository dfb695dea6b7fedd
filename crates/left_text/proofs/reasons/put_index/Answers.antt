use Rattle.std.proofs.lemmas.Int.{to_z-of_z}
use Rattle.std.specs.Int.{w16}
use Rattle.std.specs.Prelude.{codes}
use Rattle.std.specs.Fmt.{signed_decimal}
use Rattle.text_pieces.proofs.Joins.{put_three}
use Rattle.left_text.specs.LeftText.{bounds_text}
use Rattle.left_text.proofs.reasons.put_index.Goals as goal

pub returns : goal.returns
returns c =
    let index = rw (to_z-of_z w16 c.args.index c.ranges.index) at c.in_ok-put_word.ensures in
    let bounds =
    rw (to_z-of_z w16 c.args.low c.ranges.low, to_z-of_z w16 c.args.high c.ranges.high) at c.put_bounds.ensures in
    put_three c.args.text.now (codes "         index ") (signed_decimal c.args.index)
    (bounds_text c.args.low c.args.high) c.put_bounds.new.text c.put_bounds.result c.in_ok-put.ensures index bounds

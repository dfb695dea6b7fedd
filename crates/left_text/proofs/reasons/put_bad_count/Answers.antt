use Rattle.std.proofs.Common.{pos}
use Rattle.std.proofs.lemmas.Int.{to_z-of_z}
use Rattle.std.specs.Int.{w16}
use Rattle.std.specs.Prelude.{codes}
use Rattle.std.specs.Fmt.{signed_decimal}
use Rattle.text_pieces.proofs.Joins.{put_three}
use Rattle.left_text.specs.LeftText.{bounds_text}
use Rattle.left_text.proofs.reasons.put_bad_count.Goals as goal

pub returns : goal.returns
returns c =
    let count = rw (to_z-of_z w16 c.args.count c.ranges.count) at c.in_ok-put_word.ensures in
    let bounds = rw (to_z-of_z w16 c.args.most c.ranges.most) at c.put_bounds.ensures in
    put_three c.args.text.now (codes "         count ") (signed_decimal c.args.count)
    (bounds_text (pos 0) c.args.most) c.put_bounds.new.text c.put_bounds.result c.in_ok-put.ensures count bounds

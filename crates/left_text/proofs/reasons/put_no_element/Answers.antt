use Rattle.std.proofs.Common.{[], ◌∷◌, ◌++◌}
use Rattle.std.specs.Prelude.{codes}
use Rattle.text_pieces.proofs.Joins.{put_two}
use Rattle.left_text.specs.LeftText.{target_text}
use Rattle.left_text.proofs.reasons.put_no_element.Goals as goal

pub returns : goal.returns
returns c =
    put_two c.args.text.now (codes "         its word goes to an element that isn't there" ++ 10 ∷ [])
    (target_text c.args.trap) c.put_target.new.text c.put_target.result c.in_ok-put.ensures c.put_target.ensures

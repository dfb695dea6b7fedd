use Rattle.std.proofs.Common.{[], ◌∷◌, ◌++◌}
use Rattle.std.specs.Prelude.{codes}
use Rattle.text_pieces.proofs.Joins.{put_four}
use Rattle.break_text.specs.BreakText.{act_name, actor_name}
use Rattle.break_text.proofs.broken.put_kept.Goals as goal

pub returns : goal.returns
returns c =
    let act = rw c.act_name.ensures at c.in_ok-put-2.ensures in
    let actor = rw c.actor_name.ensures at c.in_ok-put-3.ensures in
    put_four c.args.text.now (codes "  then comes ") (act_name c.args.act) (actor_name c.args.site.now c.args.act)
    (codes ", which they can't do there" ++ 10 ∷ []) c.put-4.new.text c.put-4.result c.in_ok-put.ensures act actor
    c.put-4.ensures

use Rattle.std.proofs.Common.{[], ◌∷◌, ◌++◌}
use Rattle.std.specs.Prelude.{codes}
use Rattle.text_pieces.proofs.Joins.{put_three}
use Rattle.break_runs.specs.break_progress.specs.Progress.{runs_of}
use Rattle.break_text.specs.BreakText.{asked_text, tried_text}
use Rattle.break_text.proofs.whole.put_unbroken.Goals as goal

pub returns : goal.returns
returns c =
    let tried = rw c.runs_of.ensures at c.in_ok-put_tried.ensures in
    put_three c.args.text.now (tried_text (runs_of c.args.site.now.processors c.args.places))
    (asked_text c.args.asked c.args.places)
    (codes "  the checker looks at paths and not at values: a refused program may never go wrong" ++ 10 ∷ [])
    c.put.new.text c.put.result tried c.in_ok-put_asked.ensures c.put.ensures

use Rattle.std.proofs.Common.{[], ◌∷◌}
use Rattle.std.specs.Prelude.{codes}
use Rattle.finding_text.specs.Sentences.{cause_text}
use Rattle.text_pieces.proofs.Joins.{put_five}
use Rattle.finding_text.proofs.pairs.put_refused_line.Goals as goal

pub returns : goal.returns
returns c =
    put_five c.args.text.now (codes "guardian: REFUSED ") c.args.name.now (codes " ")
    (cause_text c.args.program.now c.args.refusal.now) (10 ∷ [])
    c.put-4.new.text c.put-4.result c.in_ok-put.ensures c.in_ok-put-2.ensures c.in_ok-put-3.ensures
    c.in_ok-put_cause.ensures c.put-4.ensures

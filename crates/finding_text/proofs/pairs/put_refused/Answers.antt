use Rattle.finding_text.specs.Lacking.{remedy_text}
use Rattle.finding_text.specs.PairText.{broken_text, cause_line, head_text}
use Rattle.text_pieces.proofs.Joins.{put_four}
use Rattle.finding_text.proofs.pairs.put_refused.Goals as goal

pub returns : goal.returns
returns c =
    put_four c.args.text.now (head_text c.args.name.now c.args.program.now c.args.refusal.now)
    (broken_text c.args.bytes.now c.args.start c.args.program.now c.args.found.now c.args.refusal.now)
    (remedy_text c.args.start c.args.program.now c.args.found.now)
    (cause_line c.args.name.now c.args.program.now c.args.refusal.now) c.put_cause_line.new.text
    c.put_cause_line.result c.in_ok-put_head.ensures c.in_ok-put_broken.ensures c.in_ok-put_remedy.ensures
    c.put_cause_line.ensures

use Rattle.std.specs.Prelude.{codes}
use Rattle.text_pieces.proofs.Joins.{put_three}
use Rattle.trace_lines.proofs.finding_words.put_loses.Goals as goal

pub returns : goal.returns
returns c =
    put_three c.args.text.now (codes "the last drive of ") c.args.name.now (codes " would fail: the run ends here")
    c.put-3.new.text c.put-3.result c.in_ok-put.ensures c.in_ok-put-2.ensures c.put-3.ensures

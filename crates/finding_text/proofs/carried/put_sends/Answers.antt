use Rattle.std.specs.Prelude.{codes}
use Rattle.finding_text.specs.Carried.{needless_text, sent_text}
use Rattle.text_pieces.proofs.Joins.{put_three}
use Rattle.finding_text.proofs.carried.put_sends.Goals as goal

pub returns : goal.returns
returns c =
    put_three c.args.text.now (codes "         sends the stack, the requests that were taken")
    (sent_text c.args.program.now c.args.all.now) (needless_text c.args.program.now c.args.needless.now)
    c.put_needless.new.text c.put_needless.result c.in_ok-put.ensures c.in_ok-put_sent.ensures c.put_needless.ensures

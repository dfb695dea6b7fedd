use Rattle.finding_text.specs.Lacking.{call_line, lacking_line}
use Rattle.text_pieces.proofs.Joins.{put_two}
use Rattle.finding_text.proofs.lacking.put_whole.Goals as goal

pub returns : goal.returns
returns c =
    put_two c.args.text.now (lacking_line c.args.program.now c.args.line c.args.lacking.now)
    (call_line c.args.program.now c.args.all.now) c.put_call.new.text c.put_call.result c.in_ok-put_lacking.ensures
    c.put_call.ensures

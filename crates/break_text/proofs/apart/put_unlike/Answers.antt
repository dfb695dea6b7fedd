use Rattle.std.specs.Prelude.{codes}
use Rattle.text_pieces.proofs.Joins.{put_four}
use Rattle.break_text.specs.BreakText.{line_text}
use Rattle.break_text.proofs.apart.put_unlike.Goals as goal

pub returns : goal.returns
returns c =
    put_four c.args.text.now (codes "  then this run shows:      ") (line_text c.args.site.now c.args.apart.now.shown)
    (codes "  unfailing processes show: ") (line_text c.args.site.now c.args.apart.now.due) c.put_line-2.new.text
    c.put_line-2.result c.in_ok-put.ensures c.in_ok-put_line.ensures c.in_ok-put-2.ensures c.put_line-2.ensures

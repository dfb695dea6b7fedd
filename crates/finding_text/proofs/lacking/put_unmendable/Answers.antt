use Rattle.std.specs.Prelude.{codes}
use Rattle.std.specs.Fmt.{decimal}
use Rattle.finding_text.specs.Lacking.{unmended_text}
use Rattle.text_pieces.proofs.Joins.{put_three}
use Rattle.finding_text.proofs.lacking.put_unmendable.Goals as goal

pub returns : goal.returns
returns c =
    put_three c.args.text.now (codes "lacking: no names mend it; a CHECKPOINT has to stand before line ")
    (decimal c.args.line) (unmended_text c.args.program.now c.args.reason)
    c.put_unmended.new.text c.put_unmended.result c.in_ok-put.ensures c.in_ok-put_number.ensures
    c.put_unmended.ensures

use Rattle.std.proofs.Common.{[]}
use Rattle.std.specs.Prelude.{codes}
use Rattle.text_pieces.proofs.Joins.{put_three}
use Rattle.trace_lines.specs.Names.{numbered_text}
use Rattle.trace_lines.proofs.finding_words.put_applies.Goals as goal

pub returns : goal.returns
returns c =
    let processor = rw c.from.ensures at c.in_ok-put_numbered.ensures in
    let number = rw c.from-2.ensures at c.put_numbered-2.ensures in
    put_three c.args.text.now c.args.name.now (numbered_text (codes " in processor ") c.args.processor [])
    (numbered_text (codes " puts checkpoint ") c.args.number (codes " in")) c.put_numbered-2.new.text
    c.put_numbered-2.result c.in_ok-put.ensures processor number

use Rattle.std.proofs.Common.{[]}
use Rattle.std.specs.Prelude.{codes}
use Rattle.text_pieces.proofs.Joins.{put_two}
use Rattle.trace_lines.specs.Names.{numbered_text}
use Rattle.trace_lines.proofs.finding_words.put_marks.Goals as goal

pub returns : goal.returns
returns c =
    let node = rw c.from.ensures at c.in_ok-put_numbered.ensures in
    let processor = rw c.from-2.ensures at c.put_numbered-2.ensures in
    put_two c.args.text.now (numbered_text (codes "node ") c.args.node [])
    (numbered_text (codes " marks processor ") c.args.processor []) c.put_numbered-2.new.text c.put_numbered-2.result
    node processor

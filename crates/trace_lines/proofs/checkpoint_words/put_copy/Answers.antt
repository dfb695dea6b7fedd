use Rattle.std.proofs.Common.{[]}
use Rattle.std.specs.Prelude.{codes}
use Rattle.text_pieces.proofs.Joins.{put_two}
use Rattle.trace_lines.specs.Names.{numbered_text}
use Rattle.trace_lines.proofs.checkpoint_words.put_copy.Goals as goal

pub returns : goal.returns
returns c =
    let processor = rw c.from.ensures at c.put_numbered.ensures in
    put_two c.args.text.now c.args.name.now (numbered_text (codes " in processor ") c.args.processor [])
    c.put_numbered.new.text c.put_numbered.result c.in_ok-put.ensures processor

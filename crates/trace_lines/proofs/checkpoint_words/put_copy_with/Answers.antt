use Rattle.std.proofs.Common.{[]}
use Rattle.text_pieces.proofs.Joins.{put_two}
use Rattle.trace_lines.specs.CheckpointWords.{copy_text}
use Rattle.trace_lines.specs.Names.{numbered_text}
use Rattle.trace_lines.proofs.checkpoint_words.put_copy_with.Goals as goal

pub returns : goal.returns
returns c =
    let number = rw c.from.ensures at c.put_numbered.ensures in
    put_two c.args.text.now (copy_text c.args.name.now c.args.processor)
    (numbered_text c.args.deed.now c.args.number []) c.put_numbered.new.text c.put_numbered.result
    c.in_ok-put_copy.ensures number

use Rattle.std.proofs.Common.{[]}
use Rattle.text_pieces.proofs.Joins.{put_two}
use Rattle.trace_lines.specs.Names.{numbered_text}
use Rattle.trace_lines.proofs.names.put_pair.Goals as goal

pub returns : goal.returns
returns c =
    let first = rw c.from.ensures at c.in_ok-put_numbered.ensures in
    let second = rw c.from-2.ensures at c.put_numbered-2.ensures in
    put_two c.args.text.now (numbered_text c.args.lead.now c.args.first [])
    (numbered_text c.args.middle.now c.args.second []) c.put_numbered-2.new.text c.put_numbered-2.result first second

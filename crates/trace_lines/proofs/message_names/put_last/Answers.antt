use Rattle.std.proofs.Common.{[]}
use Rattle.std.specs.Prelude.{codes}
use Rattle.text_pieces.proofs.Joins.{put_two}
use Rattle.trace_lines.specs.Names.{numbered_text}
use Rattle.trace_lines.specs.PacketFates.{nodes_text}
use Rattle.trace_lines.proofs.message_names.put_last.Goals as goal

pub returns : goal.returns
returns c =
    let last = rw c.from.ensures at c.in_ok-put_numbered.ensures in
    put_two c.args.text.now (numbered_text (codes ", last piece ") c.args.last [])
    (nodes_text c.args.sender c.args.receiver) c.put_nodes.new.text c.put_nodes.result last c.put_nodes.ensures

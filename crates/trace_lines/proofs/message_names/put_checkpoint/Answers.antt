use Rattle.std.specs.Prelude.{codes}
use Rattle.text_pieces.proofs.Joins.{put_two}
use Rattle.trace_lines.specs.Names.{numbered_text, process_name}
use Rattle.trace_lines.proofs.message_names.put_checkpoint.Goals as goal

pub returns : goal.returns
returns c =
    let number = rw c.from.ensures at c.in_ok-put_numbered.ensures in
    let name = rw c.process_name.ensures at c.put.ensures in
    put_two c.args.text.now (numbered_text (codes "checkpoint ") c.args.number (codes " of "))
    (process_name c.args.site.now c.args.process) c.put.new.text c.put.result number name

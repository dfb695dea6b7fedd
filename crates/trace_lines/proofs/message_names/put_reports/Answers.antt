use Rattle.std.specs.Prelude.{codes}
use Rattle.text_pieces.proofs.Joins.{put_two}
use Rattle.trace_lines.specs.MessageNames.{silent_text}
use Rattle.trace_lines.specs.Names.{numbered_text}
use Rattle.trace_lines.proofs.message_names.put_reports.Goals as goal

pub returns : goal.returns
returns c =
    let node = rw c.from.ensures at c.in_ok-put_numbered.ensures in
    put_two c.args.text.now (numbered_text (codes "node ") c.args.node (codes " reports, silent:"))
    (silent_text c.args.silent) c.put_silent.new.text c.put_silent.result node c.put_silent.ensures

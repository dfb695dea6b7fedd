use Rattle.std.proofs.Common.{[]}
use Rattle.std.specs.Prelude.{codes}
use Rattle.text_pieces.proofs.Joins.{put_three}
use Rattle.trace_lines.specs.EventLine.{deed_text}
use Rattle.trace_lines.specs.Names.{numbered_text}
use Rattle.trace_lines.proofs.event_line.put_drive_event.Goals as goal

pub returns : goal.returns
returns c =
    let deed = rw c.deed_text.ensures at c.in_ok-put.ensures in
    let drive = rw c.from.ensures at c.put_numbered.ensures in
    put_three c.args.text.now (deed_text c.args.one.change) c.args.name.now
    (numbered_text (codes " ") c.args.one.drive []) c.put_numbered.new.text c.put_numbered.result deed
    c.in_ok-put-2.ensures drive

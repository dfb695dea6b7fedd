use Rattle.std.specs.Fmt.{decimal}
use Rattle.std.specs.Prelude.{codes}
use Rattle.json_lines.specs.Strings.{string_text}
use Rattle.text_pieces.proofs.Joins.{put_four}
use Rattle.trace_forms.proofs.lines.put_head.Goals as goal

pub returns : goal.returns
returns c =
    put_four c.args.text.now (codes "{\"number\":") (decimal c.args.number) (codes ",\"event\":")
    (string_text c.args.event.now) c.put_string.new.text c.put_string.result c.in_ok-put.ensures
    c.in_ok-put_number.ensures c.in_ok-put-2.ensures c.put_string.ensures

use Rattle.std.proofs.Common.{[], ◌∷◌}
use Rattle.std.specs.Prelude.{codes}
use Rattle.json_lines.specs.Strings.{strings_text}
use Rattle.text_pieces.proofs.Joins.{put_five}
use Rattle.trace_forms.specs.Pieces.{object_head}
use Rattle.trace_forms.proofs.lines.put_pieces.Goals as goal

pub returns : goal.returns
returns c =
    put_five c.args.text.now (object_head c.args.number c.args.event.now) (codes ",\"findings\":")
    (strings_text c.args.findings.now) (codes "}") (10 ∷ []) c.put-3.new.text c.put-3.result
    c.in_ok-put_head.ensures c.in_ok-put.ensures c.in_ok-put_strings.ensures c.in_ok-put-2.ensures c.put-3.ensures

use Rattle.std.proofs.Common.{flat_map}
use Rattle.std.specs.Prelude.{codes}
use Rattle.svg_text.specs.Escapes.{escaped_text}
use Rattle.svg_text.specs.Looks.{all_looks, rule_text}
use Rattle.text_pieces.proofs.Joins.{put_two}
use Rattle.svg_text.proofs.sheets.put_style.Goals as goal

pub returns : goal.returns
returns c =
    put_two c.args.text.now (escaped_text (codes "\ntext{font:11px sans-serif}\n")) (flat_map rule_text all_looks)
    c.put_rules.new.text c.put_rules.result c.in_ok-put_escaped.ensures c.put_rules.ensures

use Rattle.std.proofs.Common.{◌≡◌, ◌++◌, flat_map, take}
use Rattle.svg_text.specs.Looks.{rule_text}
use Rattle.svg_text.proofs.sheets.put_rules.Given as goal

abbrev pub invariant-loop-look : goal.invariant-loop-look
invariant-loop-look l = l.text ≡ l.initial.text ++ flat_map rule_text (take l.look-index l.looks)

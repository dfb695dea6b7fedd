use Rattle.std.proofs.Common.{◌≡◌, ◌++◌, flat_map, take}
use Rattle.svg_text.specs.Shapes.{group_text}
use Rattle.svg_text.proofs.sheets.put_groups.Given as goal

abbrev pub invariant-loop-group : goal.invariant-loop-group
invariant-loop-group l = l.text ≡ l.initial.text ++ flat_map group_text (take l.group-index l.groups)

use Rattle.std.proofs.Common.{◌≡◌, ◌++◌, flat_map, take}
use Rattle.json_lines.specs.Strings.{later_text}
use Rattle.json_lines.proofs.strings.put_later.Given as goal

abbrev pub invariant-loop-one : goal.invariant-loop-one
invariant-loop-one l = l.text ≡ l.initial.text ++ flat_map later_text (take l.one-index l.rest)

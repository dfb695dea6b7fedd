use Rattle.std.proofs.Common.{◌≡◌, ◌++◌, flat_map, take}
use Rattle.json_lines.specs.Strings.{sign_text}
use Rattle.json_lines.proofs.strings.put_signs.Given as goal

abbrev pub invariant-loop-sign : goal.invariant-loop-sign
invariant-loop-sign l = l.text ≡ l.initial.text ++ flat_map sign_text (take l.sign-index l.signs)

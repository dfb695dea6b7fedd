use Rattle.std.proofs.Common.{◌≡◌, ◌++◌, flat_map, take}
use Rattle.svg_text.specs.Escapes.{escaped}
use Rattle.svg_text.proofs.elements.put_escaped.Given as goal

abbrev pub invariant-loop-sign : goal.invariant-loop-sign
invariant-loop-sign l = l.text ≡ l.initial.text ++ flat_map escaped (take l.sign-index l.words)

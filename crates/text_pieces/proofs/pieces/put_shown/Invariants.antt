use Rattle.std.proofs.Common.{◌≡◌, ◌++◌, map, take}
use Rattle.text_pieces.specs.Signs.{shown_sign}
use Rattle.text_pieces.proofs.pieces.put_shown.Given as goal

abbrev pub invariant-loop-sign : goal.invariant-loop-sign
invariant-loop-sign l = l.text ≡ l.fn.text ++ map shown_sign (take l.sign-index l.line)

use Rattle.std.proofs.Common.{◌≡◌, ◌++◌, flat_map, take}
use Rattle.text_pieces.specs.Signs.{lead_sign}
use Rattle.text_pieces.proofs.pieces.put_lead.Given as goal

abbrev pub invariant-loop-sign : goal.invariant-loop-sign
invariant-loop-sign l = l.text ≡ l.fn.text ++ flat_map lead_sign (take l.sign-index l.before)

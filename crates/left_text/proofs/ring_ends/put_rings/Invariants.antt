use Rattle.std.proofs.Common.{◌≡◌, ◌++◌, flat_map, take}
use Rattle.left_text.specs.LeftText.{ring_text}
use Rattle.left_text.proofs.ring_ends.put_rings.Given as goal

abbrev pub invariant-loop-ring : goal.invariant-loop-ring
invariant-loop-ring l = l.text ≡ l.fn.text ++ flat_map (ring_text l.all) (take l.ring-index l.rings)

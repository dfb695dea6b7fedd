use Rattle.std.proofs.Common.{◌≡◌, ◌++◌, flat_map, take}
use Rattle.left_text.specs.LeftText.{other_text}
use Rattle.left_text.proofs.ring_ends.put_others.Given as goal

abbrev pub invariant-loop-other : goal.invariant-loop-other
invariant-loop-other l = l.text ≡ l.fn.text ++ flat_map (other_text l.all) (take l.other-index l.others)

-- Which steps of a process change what is in hand.
use Rattle.std.proofs.Common.{◌≡◌, ℤ, true, List, rules}
use Rattle.process_semantics.specs.Process.{ProcessState, point, in_hand, after_inner, after_took, after_got}
use Rattle.process_semantics.specs.declared.point.Point.TheVariants.{Take}

pub inner-hand : (s : ProcessState) → in_hand (after_inner s) ≡ in_hand s
inner-hand s = search rules

pub took-hand : (s : ProcessState) (words : List ℤ) → point s ≡ Take → in_hand (after_took s words) ≡ true
took-hand s words at = search rules

pub got-hand : (s : ProcessState) (words : List ℤ) → in_hand (after_got s words) ≡ in_hand s
got-hand s words = search rules

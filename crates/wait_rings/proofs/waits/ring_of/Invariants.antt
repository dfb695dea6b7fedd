use Rattle.std.proofs.Common.{◌≡◌, length}
use Rattle.wait_rings.specs.Rings.{ring_of, ring_on}
use Rattle.wait_rings.proofs.waits.ring_of.Given as goal

abbrev pub invariant-loop-rest : goal.invariant-loop-rest
invariant-loop-rest l = ring_on l.awaited (length l.left) l.first l.one l.members ≡ ring_of l.awaited l.first

abbrev pub decreases-loop-rest : goal.decreases-loop-rest
decreases-loop-rest l = length l.left

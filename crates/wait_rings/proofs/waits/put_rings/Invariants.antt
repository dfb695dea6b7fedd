use Rattle.std.proofs.Common.{◌≡◌, ◌++◌}
use Rattle.wait_rings.specs.Rings.{rings_below}
use Rattle.wait_rings.proofs.waits.put_rings.Given as goal

abbrev pub invariant-loop-first : goal.invariant-loop-first
invariant-loop-first l = l.all ≡ l.initial.all ++ rings_below l.awaited l.first

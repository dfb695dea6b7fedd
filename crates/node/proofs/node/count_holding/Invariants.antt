use Rattle.std.proofs.Common.{◌≡◌, take}
use Rattle.node.specs.Held.{holding_in}
use Rattle.node.proofs.node.count_holding.Given as goal

abbrev pub invariant-loop-end : goal.invariant-loop-end
invariant-loop-end l = l.holding ≡ holding_in (take l.end-index l.ends)

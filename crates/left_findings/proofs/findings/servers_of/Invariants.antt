use Rattle.std.proofs.Common.{◌≡◌, take}
use Rattle.left_findings.specs.Left.{servers_of}
use Rattle.left_findings.proofs.findings.servers_of.Given as goal

abbrev pub invariant-loop-left : goal.invariant-loop-left
invariant-loop-left l = l.servers ≡ servers_of (take l.left-index l.lefts)

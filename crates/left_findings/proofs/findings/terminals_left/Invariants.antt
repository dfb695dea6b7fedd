use Rattle.std.proofs.Common.{◌≡◌, map, take}
use Rattle.left_findings.specs.Left.{terminal_left}
use Rattle.left_findings.proofs.findings.terminals_left.Given as goal

abbrev pub invariant-loop-terminal : goal.invariant-loop-terminal
invariant-loop-terminal l = l.all ≡ map terminal_left (take l.terminal-index l.terminals)

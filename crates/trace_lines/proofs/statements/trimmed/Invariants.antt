use Rattle.std.proofs.Common.{◌≡◌, length}
use Rattle.trace_lines.specs.Statements.{trimmed}
use Rattle.trace_lines.proofs.statements.trimmed.Given as goal

abbrev pub invariant-loop-sign : goal.invariant-loop-sign
invariant-loop-sign l = trimmed l.left ≡ trimmed l.line

abbrev pub decreases-loop-sign : goal.decreases-loop-sign
decreases-loop-sign l = length l.left

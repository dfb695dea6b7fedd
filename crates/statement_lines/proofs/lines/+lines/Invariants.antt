use Rattle.std.proofs.Common.{◌≡◌, ◌++◌, take}
use Rattle.statement_lines.specs.Lines.{lines_in}
use Rattle.statement_lines.proofs.lines.+lines.Given as goal

abbrev pub invariant-push_lines-loop-statement : goal.invariant-push_lines-loop-statement
invariant-push_lines-loop-statement l = l.lines ≡ l.fn.lines ++ lines_in (take l.statement-index l.statements)

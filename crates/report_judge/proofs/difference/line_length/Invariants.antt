use Rattle.std.proofs.Common.{◌≡◌, ◌+◌, drop}
use Rattle.report_judge.specs.Lines.{line_length}
use Rattle.report_judge.proofs.difference.line_length.Given as goal

abbrev pub invariant-loop-at : goal.invariant-loop-at
invariant-loop-at l = line_length l.text ≡ l.at + line_length (drop l.at l.text)

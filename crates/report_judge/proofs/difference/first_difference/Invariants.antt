use Rattle.std.proofs.Common.{◌+◌, ◌≤◌, length}
use Rattle.report_judge.proofs.LineLemmas.{AreSameTo}
use Rattle.report_judge.proofs.difference.first_difference.Given as goal

-- the lines so far are the same
abbrev pub invariant-loop-one_line : goal.invariant-loop-one_line
invariant-loop-one_line l =
    AreSameTo l.one l.other l.one_rest l.other_rest l.number × (l.number + length l.one_rest ≤ length l.one + 1)

abbrev pub decreases-loop-one_line : goal.decreases-loop-one_line
decreases-loop-one_line l = length l.one_rest

use Rattle.std.proofs.Common.{◌+◌, ◌≤◌, length}
use Rattle.report_reader.specs.Parts.{parts_of}
use Rattle.report_reader.proofs.ReadLemmas.{IsReadTo}
use Rattle.report_reader.proofs.reading.read_report.Given as goal

-- the lines so far are read
abbrev pub invariant-loop-line : goal.invariant-loop-line
invariant-loop-line l =
    IsReadTo l.site l.report l.before l.told (parts_of 10 l.rest) × (length l.told + length l.rest ≤ length l.report)

abbrev pub decreases-loop-line : goal.decreases-loop-line
decreases-loop-line l = length l.rest

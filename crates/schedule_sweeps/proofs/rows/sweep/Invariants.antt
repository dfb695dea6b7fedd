use Rattle.std.proofs.Common.{◌≡◌, length}
use Rattle.schedule_sweeps.specs.Sweeps.{AreRowsFrom}
use Rattle.schedule_sweeps.proofs.rows.sweep.Given as goal

-- the rows so far
abbrev pub invariant-loop-processor : goal.invariant-loop-processor
invariant-loop-processor l = (length l.table ≡ l.processor) × AreRowsFrom l.site l.lines l.runs 0 l.table

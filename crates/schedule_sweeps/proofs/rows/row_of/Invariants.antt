use Rattle.schedule_sweeps.specs.Sweeps.{IsRowOf}
use Rattle.schedule_sweeps.proofs.rows.row_of.Given as goal

-- the row so far
abbrev pub invariant-loop-after : goal.invariant-loop-after
invariant-loop-after l = IsRowOf l.site l.lines l.processor l.after l.row

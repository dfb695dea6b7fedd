use Rattle.schedule_sweeps.proofs.Sweeping.{next-row}
use Rattle.schedule_sweeps.proofs.rows.sweep.Goals as goal

pub loop-processor-preserved : goal.loop-processor-preserved
loop-processor-preserved c = next-row _ _ _ _ _ _ _ c.loop-processor.invariant c.push.ensures c.in_ok-row.ensures

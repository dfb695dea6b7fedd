use Rattle.schedule_sweeps.proofs.Sweeping.{row-more}
use Rattle.schedule_sweeps.proofs.rows.row_of.Goals as goal

pub loop-after-preserved : goal.loop-after-preserved
loop-after-preserved c = row-more _ _ _ _ _ _ _ c.loop-after.invariant c.in_ok-kind.ensures c.add.ensures

pub kind_of_run-requires-clause-can : goal.kind_of_run-requires-clause-can
kind_of_run-requires-clause-can c =
    c.requires.can (record { processor = c.args.processor; after = c.loop-after.after })

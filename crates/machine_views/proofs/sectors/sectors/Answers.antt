use Rattle.std.proofs.Common.{◌∙◌}
use Rattle.machine_views.specs.Views.{sector_views}
use Rattle.machine_views.proofs.Numbered.{process-step}
use Rattle.machine_views.proofs.sectors.sectors.Goals as goal

pub loop-process-preserved : goal.loop-process-preserved
loop-process-preserved c =
    c.loop-process.invariant
    ∙ process-step sector_views c.args.processes.now c.loop-process.process-index c.process-item.result
    c.loop-process.views c.add_sectors.new.views c.requires
    c.loop-process-test.true c.process-item.is c.in_ok-add_sectors.ensures

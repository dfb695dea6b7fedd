use Rattle.std.proofs.Common.{◌≡◌, ◌++◌, drop}
use Rattle.site_machine.specs.world_copies.specs.Seen.{pairs_in}
use Rattle.machine_views.specs.Views.{copy_views, each_at}
use Rattle.machine_views.proofs.copies.copies.Given as goal

abbrev pub invariant-loop-process : goal.invariant-loop-process
invariant-loop-process l = each_at copy_views 0 (pairs_in l.processes)
    ≡ l.views ++ each_at copy_views l.process-index (pairs_in (drop l.process-index l.processes))

use Rattle.std.proofs.Common.{◌≡◌, ◌++◌, drop}
use Rattle.site_machine.specs.world_copies.specs.Seen.{pairs_in}
use Rattle.machine_views.specs.Views.{each_at, sector_views}
use Rattle.machine_views.proofs.sectors.sectors.Given as goal

abbrev pub invariant-loop-process : goal.invariant-loop-process
invariant-loop-process l = each_at sector_views 0 (pairs_in l.processes)
    ≡ l.views ++ each_at sector_views l.process-index (pairs_in (drop l.process-index l.processes))

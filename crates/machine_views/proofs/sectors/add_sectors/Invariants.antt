use Rattle.std.proofs.Common.{◌≡◌, ◌++◌, drop}
use Rattle.machine_views.specs.Views.{each_at, sector_view, sector_views}
use Rattle.machine_views.proofs.sectors.add_sectors.Given as goal

abbrev pub invariant-loop-sector : goal.invariant-loop-sector
invariant-loop-sector l = l.fn.views ++ sector_views l.process.number l.process.pair
    ≡ l.views ++ each_at (sector_view l.process.number) l.sector (drop l.sector l.process.pair.sectors)

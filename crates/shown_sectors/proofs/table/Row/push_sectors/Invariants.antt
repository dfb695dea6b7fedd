use Rattle.std.proofs.Common.{◌≡◌, ◌++◌, drop}
use Rattle.shown_sectors.specs.Tables.{row_sectors}
use Rattle.shown_sectors.proofs.table.Row.push_sectors.Given as goal

abbrev pub invariant-loop-sector : goal.invariant-loop-sector
invariant-loop-sector l =
    l.initial.all ++ row_sectors l.process 0 l.self ≡ l.all ++ row_sectors l.process l.sector (drop l.sector l.self)

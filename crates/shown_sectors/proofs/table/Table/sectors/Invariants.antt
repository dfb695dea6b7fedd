use Rattle.std.proofs.Common.{◌≡◌, ◌++◌, drop}
use Rattle.shown_sectors.specs.Tables.{rows_sectors}
use Rattle.shown_sectors.proofs.table.Table.sectors.Given as goal

abbrev pub invariant-loop-process : goal.invariant-loop-process
invariant-loop-process l = rows_sectors 0 l.self ≡ l.all ++ rows_sectors l.process (drop l.process l.self)

use Rattle.std.proofs.Common.{◌≡◌, drop}
use Rattle.shown_sectors.specs.Tables.{rows_after}
use Rattle.shown_sectors.proofs.table.Table.put_all.Given as goal

abbrev pub invariant-loop-one : goal.invariant-loop-one
invariant-loop-one l = rows_after l.initial.self l.shown ≡ rows_after l.self (drop l.one-index l.shown)

use Rattle.std.proofs.Common.{◌≡◌, ◌++◌, drop}
use Rattle.shown_sectors.specs.Tables.{blank_rows}
use Rattle.shown_sectors.proofs.table.Table.blank.Given as goal

abbrev pub invariant-loop-spec : goal.invariant-loop-spec
invariant-loop-spec l = blank_rows l.processes ≡ l.rows.items ++ blank_rows (drop l.spec-index l.processes)

use Rattle.std.proofs.Common.{◌≡◌, ◌++◌, drop}
use Rattle.plain_machine.specs.Wiring.{file_rows}
use Rattle.plain_machine.proofs.tables.file_rows.Given as goal

abbrev pub invariant-loop-number : goal.invariant-loop-number
invariant-loop-number l =
    file_rows l.site 0 l.processes ≡ l.rows ++ file_rows l.site l.number (drop l.number l.processes)

use Rattle.std.proofs.Common.{◌≡◌, ◌++◌, drop}
use Rattle.plain_machine.specs.Wiring.{file_row}
use Rattle.plain_machine.proofs.tables.file_row.Given as goal

abbrev pub invariant-loop-number : goal.invariant-loop-number
invariant-loop-number l =
    file_row l.site l.process 0 l.files ≡ l.row ++ file_row l.site l.process l.number (drop l.number l.files)

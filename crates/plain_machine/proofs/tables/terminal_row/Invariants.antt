use Rattle.std.proofs.Common.{◌≡◌, ◌++◌, drop}
use Rattle.plain_machine.specs.Wiring.{terminal_row}
use Rattle.plain_machine.proofs.tables.terminal_row.Given as goal

abbrev pub invariant-loop-number : goal.invariant-loop-number
invariant-loop-number l =
    terminal_row l.site 0 l.terminals ≡ l.row ++ terminal_row l.site l.number (drop l.number l.terminals)

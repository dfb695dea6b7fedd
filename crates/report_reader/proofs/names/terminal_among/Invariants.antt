use Rattle.std.proofs.Common.{◌≡◌, drop}
use Rattle.report_reader.specs.Names.{terminal_from}
use Rattle.report_reader.proofs.names.terminal_among.Given as goal

abbrev pub invariant-loop-number : goal.invariant-loop-number
invariant-loop-number l = terminal_from l.name 0 l.terminals ≡ terminal_from l.name l.number (drop l.number l.terminals)

use Rattle.std.proofs.Common.{◌≡◌, drop}
use Rattle.plain_semantics.specs.Openers.{terminals_from}
use Rattle.plain_semantics.specs.Sought.{sought}
use Rattle.plain_semantics.proofs.placed.sought_in_terminals.Given as goal

abbrev pub invariant-loop-number : goal.invariant-loop-number
invariant-loop-number l = sought (terminals_from l.process 0 l.terminals) l.place
    ≡ sought (terminals_from l.process l.number (drop l.number l.terminals)) l.left

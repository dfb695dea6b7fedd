use Rattle.std.proofs.Common.{◌≡◌, ◌++◌, drop}
use Rattle.plain_semantics.specs.Openers.{terminals_from}
use Rattle.plain_semantics.proofs.opening.put_terminals.Given as goal

abbrev pub invariant-loop-number : goal.invariant-loop-number
invariant-loop-number l = l.initial.all ++ terminals_from l.process 0 l.terminals
    ≡ l.all ++ terminals_from l.process l.number (drop l.number l.terminals)

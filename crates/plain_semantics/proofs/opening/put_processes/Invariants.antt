use Rattle.std.proofs.Common.{◌≡◌, ◌++◌, drop}
use Rattle.plain_semantics.specs.Openers.{processes_from}
use Rattle.plain_semantics.proofs.opening.put_processes.Given as goal

abbrev pub invariant-loop-number : goal.invariant-loop-number
invariant-loop-number l = l.initial.all ++ processes_from l.name 0 l.processes
    ≡ l.all ++ processes_from l.name l.number (drop l.number l.processes)

use Rattle.std.proofs.Common.{◌≡◌, drop}
use Rattle.plain_semantics.specs.Openers.{processes_from}
use Rattle.plain_semantics.specs.Sought.{sought}
use Rattle.plain_semantics.proofs.placed.sought_in_processes.Given as goal

abbrev pub invariant-loop-number : goal.invariant-loop-number
invariant-loop-number l = sought (processes_from l.name 0 l.processes) l.place
    ≡ sought (processes_from l.name l.number (drop l.number l.processes)) l.left

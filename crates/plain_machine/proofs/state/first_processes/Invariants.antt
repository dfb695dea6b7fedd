use Rattle.std.proofs.Common.{◌≡◌, ◌++◌, drop}
use Rattle.plain_semantics.specs.Machine.{processes_at_first}
use Rattle.plain_machine.proofs.state.first_processes.Given as goal

abbrev pub invariant-loop-number : goal.invariant-loop-number
invariant-loop-number l =
    processes_at_first l.site 0 l.specs ≡ l.all.items ++ processes_at_first l.site l.number (drop l.number l.specs)

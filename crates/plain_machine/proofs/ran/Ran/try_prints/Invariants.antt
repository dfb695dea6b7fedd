use Rattle.std.proofs.Common.{◌≡◌, ◌+◌, ◌-◌, ◌≤◌, length}
use Rattle.plain_machine.specs.Rounds.{swept, print_of}
use Rattle.plain_machine.specs.Writes.{most_write}
use Rattle.plain_machine.proofs.ran.Ran.try_prints.Given as goal

abbrev pub invariant-loop-terminal : goal.invariant-loop-terminal
invariant-loop-terminal l =
    (swept l.wires print_of 0 (length l.wires.terminals) l.initial.self
    ≡ swept l.wires print_of l.terminal (length l.wires.terminals - l.terminal) l.self)
    × (most_write l.self.plain.processes ≤ most_write l.initial.self.plain.processes + l.terminal)

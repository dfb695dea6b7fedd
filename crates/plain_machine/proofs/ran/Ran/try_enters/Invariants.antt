use Rattle.std.proofs.Common.{◌≡◌, ◌+◌, ◌-◌, ◌≤◌, length}
use Rattle.plain_machine.specs.Rounds.{swept, enter_of}
use Rattle.plain_machine.specs.Writes.{most_write}
use Rattle.plain_machine.proofs.ran.Ran.try_enters.Given as goal

abbrev pub invariant-loop-terminal : goal.invariant-loop-terminal
invariant-loop-terminal l =
    (swept l.wires enter_of 0 (length l.wires.terminals) l.initial.self
    ≡ swept l.wires enter_of l.terminal (length l.wires.terminals - l.terminal) l.self)
    × (most_write l.self.plain.processes ≤ most_write l.initial.self.plain.processes + l.terminal)

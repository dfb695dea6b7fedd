use Rattle.std.proofs.Common.{◌≡◌, ◌+◌, ◌-◌, ◌≤◌, length}
use Rattle.plain_machine.specs.Rounds.{swept, next_move}
use Rattle.plain_machine.specs.Writes.{most_write}
use Rattle.plain_machine.proofs.ran.Ran.try_moves.Given as goal

abbrev pub invariant-loop-process : goal.invariant-loop-process
invariant-loop-process l =
    (swept l.wires next_move 0 (length l.wires.processes) l.initial.self
    ≡ swept l.wires next_move l.process (length l.wires.processes - l.process) l.self)
    × (most_write l.self.plain.processes ≤ most_write l.initial.self.plain.processes + l.process)

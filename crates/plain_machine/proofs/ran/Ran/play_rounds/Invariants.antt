use Rattle.std.proofs.Common.{◌≡◌, ◌+◌, ◌-◌, ◌*◌, ◌≤◌}
use Rattle.plain_machine.specs.Rounds.{rounds_on}
use Rattle.plain_machine.specs.Writes.{most_write, round_acts}
use Rattle.plain_machine.proofs.ran.Ran.play_rounds.Given as goal

abbrev pub invariant-loop : goal.invariant-loop
invariant-loop l = (rounds_on l.wires l.rounds l.initial.self ≡ rounds_on l.wires (l.rounds - l.counter) l.self)
    × (most_write l.self.plain.processes ≤ most_write l.initial.self.plain.processes + l.counter * round_acts l.wires)

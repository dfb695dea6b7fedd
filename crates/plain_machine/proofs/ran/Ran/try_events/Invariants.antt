use Rattle.std.proofs.Common.{◌≡◌, ◌+◌, ◌-◌, ◌≤◌}
use Rattle.plain_machine.specs.Lines.{repeated}
use Rattle.plain_machine.specs.Writes.{most_write}
use Rattle.plain_machine.proofs.ran.Ran.try_events.Given as goal

abbrev pub invariant-loop : goal.invariant-loop
invariant-loop l =
    (repeated l.wires l.event l.times l.initial.self ≡ repeated l.wires l.event (l.times - l.counter) l.self)
    × (most_write l.self.plain.processes ≤ most_write l.initial.self.plain.processes + l.counter)

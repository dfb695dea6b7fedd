use Rattle.std.proofs.Common.{◌≡◌, replicate}
use Rattle.plain_semantics.specs.declared.slot.Slot.TheVariants.{Empty}
use Rattle.plain_machine.proofs.process.empties.Given as goal

abbrev pub invariant-loop : goal.invariant-loop
invariant-loop l = l.slots.items ≡ replicate l.counter Empty

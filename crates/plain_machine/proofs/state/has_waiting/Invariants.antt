use Rattle.std.proofs.Common.{◌≡◌, drop}
use Rattle.plain_machine.specs.Stillness.{has_waiting}
use Rattle.plain_machine.proofs.state.has_waiting.Given as goal

abbrev pub invariant-loop-slot : goal.invariant-loop-slot
invariant-loop-slot l = has_waiting l.slots ≡ has_waiting (drop l.slot-index l.slots)

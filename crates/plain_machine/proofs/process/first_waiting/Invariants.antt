use Rattle.std.proofs.Common.{◌≡◌, drop}
use Rattle.plain_machine.specs.Rounds.{waiting_from}
use Rattle.plain_machine.proofs.process.first_waiting.Given as goal

abbrev pub invariant-loop-place : goal.invariant-loop-place
invariant-loop-place l = waiting_from 0 l.slots ≡ waiting_from l.place (drop l.place l.slots)

use Rattle.std.proofs.Common.{◌≡◌, ◌-◌, length}
use Rattle.plain_machine.specs.Rounds.{next_move}
use Rattle.plain_machine.specs.Stillness.{none_of}
use Rattle.plain_machine.proofs.state.State.has_no_move.Given as goal

abbrev pub invariant-loop-number : goal.invariant-loop-number
invariant-loop-number l =
    none_of l.wires l.self next_move 0 (length l.self.processes)
    ≡ none_of l.wires l.self next_move l.number (length l.self.processes - l.number)

use Rattle.std.proofs.Common.{◌≡◌, ◌-◌, length}
use Rattle.plain_machine.specs.Rounds.{print_of}
use Rattle.plain_machine.specs.Stillness.{none_of}
use Rattle.plain_machine.proofs.state.State.has_no_print.Given as goal

abbrev pub invariant-loop-terminal : goal.invariant-loop-terminal
invariant-loop-terminal l = none_of l.wires l.self print_of 0 (length l.wires.terminals)
    ≡ none_of l.wires l.self print_of l.terminal (length l.wires.terminals - l.terminal)

use Rattle.std.proofs.Common.{◌≡◌, ◌-◌, length}
use Rattle.plain_machine.specs.Rounds.{enter_of}
use Rattle.plain_machine.specs.Stillness.{none_of}
use Rattle.plain_machine.proofs.state.State.has_no_enter.Given as goal

abbrev pub invariant-loop-terminal : goal.invariant-loop-terminal
invariant-loop-terminal l = none_of l.wires l.self enter_of 0 (length l.wires.terminals)
    ≡ none_of l.wires l.self enter_of l.terminal (length l.wires.terminals - l.terminal)

use Rattle.std.proofs.Common.{◌≡◌, take, map}
use Rattle.plain_machine.proofs.state.none_entered.Given as goal

abbrev pub invariant-loop-terminal : goal.invariant-loop-terminal
invariant-loop-terminal l = l.all.items ≡ map (λ terminal. 0) (take l._terminal-index l.terminals)

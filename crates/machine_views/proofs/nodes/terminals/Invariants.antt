use Rattle.std.proofs.Common.{◌≡◌, map, take}
use Rattle.machine_views.specs.Views.{terminal_view}
use Rattle.machine_views.proofs.nodes.terminals.Given as goal

abbrev pub invariant-loop-terminal : goal.invariant-loop-terminal
invariant-loop-terminal l = l.views ≡ map terminal_view (take l.terminal-index l.terminals)

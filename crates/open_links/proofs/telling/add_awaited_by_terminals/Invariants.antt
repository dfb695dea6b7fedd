use Rattle.std.proofs.Common.{◌≡◌, ◌++◌, drop}
use Rattle.world_copies.specs.sendings.specs.letters.specs.Again.{awaited_from}
use Rattle.node_needs.specs.NodeNeeds.{of_terminals}
use Rattle.open_links.proofs.telling.add_awaited_by_terminals.Given as goal

-- what is added so far and what is left
abbrev pub invariant-loop-number : goal.invariant-loop-number
invariant-loop-number l =
    l.requests ++ of_terminals (awaited_from l.world.site) l.number (drop l.number l.world.world.terminals)
    ≡ l.initial.requests ++ of_terminals (awaited_from l.world.site) 0 l.world.world.terminals

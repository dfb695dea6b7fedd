use Rattle.std.proofs.Common.{◌≡◌, ◌++◌, drop}
use Rattle.world_semantics.specs.Messages.{sent_at}
use Rattle.process_copies.specs.letters.specs.Again.{of_terminals}
use Rattle.world_copies.specs.Again.{terminal_asking}
use Rattle.world_copies.proofs.copies.WorldCopies.terminals_ask.Given as goal

-- what is asked so far and what is left
abbrev pub invariant-loop-number : goal.invariant-loop-number
invariant-loop-number l =
    l.again ++ sent_at l.node (of_terminals (terminal_asking l.self.site l.self.world l.node l.processor) l.number
    (drop l.number l.self.world.terminals))
    ≡ l.initial.again ++ sent_at l.node (of_terminals (terminal_asking l.self.site l.self.world l.node l.processor) 0
    l.self.world.terminals)

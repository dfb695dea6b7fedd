use Rattle.std.proofs.Common.{◌≡◌, ◌++◌, drop}
use Rattle.world_semantics.specs.Messages.{sent_at}
use Rattle.process_copies.specs.letters.specs.Again.{tells_again, of_copies}
use Rattle.world_copies.proofs.copies.WorldCopies.copies_tell.Given as goal

-- what is told so far and what is left
abbrev pub invariant-loop-number : goal.invariant-loop-number
invariant-loop-number l =
    l.again ++ sent_at l.node (of_copies (tells_again l.self.site l.self.world l.node l.processor) l.number
    (drop l.number l.self.world.processes))
    ≡ l.initial.again ++ sent_at l.node (of_copies (tells_again l.self.site l.self.world l.node l.processor) 0
    l.self.world.processes)

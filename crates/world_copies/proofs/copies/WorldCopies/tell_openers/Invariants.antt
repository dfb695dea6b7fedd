use Rattle.std.proofs.Common.{◌≡◌, ◌++◌, map, drop}
use Rattle.world_semantics.specs.Messages.{Replying, sent_at}
use Rattle.process_copies.specs.letters.specs.Again.{kept_from}
use Rattle.world_copies.proofs.copies.WorldCopies.tell_openers.Given as goal

-- what is told so far and what is left
abbrev pub invariant-loop-place : goal.invariant-loop-place
invariant-loop-place l =
    l.again ++ sent_at l.node (map Replying
    (kept_from l.self.world l.node l.processor l.number l.table l.place (drop l.place l.openers)))
    ≡ l.initial.again ++ sent_at l.node (map Replying
    (kept_from l.self.world l.node l.processor l.number l.table 0 l.openers))

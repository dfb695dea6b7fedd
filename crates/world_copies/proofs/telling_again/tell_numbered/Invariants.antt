use Rattle.std.proofs.Common.{◌≡◌, ◌+◌, ◌-◌, ◌++◌, length, map, drop}
use Rattle.world_semantics.specs.Messages.{Replying, sent_at}
use Rattle.process_copies.specs.letters.specs.Again.{numbered}
use Rattle.world_copies.proofs.telling_again.tell_numbered.Given as goal

-- what is told so far and what is left
abbrev pub invariant-loop-words : goal.invariant-loop-words
invariant-loop-words l =
    (l.number + length l.kept ≡ l.last + l.words-index)
    × (l.again ++ sent_at l.node (map Replying (numbered l.process l.opener (l.number + 1) (drop l.words-index l.kept)))
    ≡ l.initial.again ++ sent_at l.node (map Replying
    (numbered l.process l.opener (l.last + 1 - length l.kept) l.kept)))

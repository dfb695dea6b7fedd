use Rattle.std.proofs.Common.{◌≡◌, ◌++◌, take}
use Rattle.sync_ids.proofs.since.put_copies.Given as goal

abbrev pub invariant-loop-words : goal.invariant-loop-words
invariant-loop-words l = l.out ≡ l.initial.out ++ take l.words-index l.replies

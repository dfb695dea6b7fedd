use Rattle.std.proofs.Common.{◌≡◌, take}
use Rattle.circular_buffer.specs.Buffer.{buffer}
use Rattle.sync_ids.proofs.opener.refill.Given as goal

abbrev pub invariant-loop-words : goal.invariant-loop-words
invariant-loop-words l = l.kept ≡ buffer (take l.words-index l.replies) l.fn.kept.capacity

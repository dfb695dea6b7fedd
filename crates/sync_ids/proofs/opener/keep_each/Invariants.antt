use Rattle.std.proofs.Common.{◌≡◌, ◌++◌, take}
use Rattle.circular_buffer.specs.Buffer.{buffer}
use Rattle.checkpoint_image.specs.Receive.{last_ones}
use Rattle.sync_ids.proofs.opener.keep_each.Given as goal

abbrev pub invariant-loop-words : goal.invariant-loop-words
invariant-loop-words l =
    l.kept ≡ buffer (last_ones l.fn.kept.capacity (l.fn.kept.items ++ take l.words-index l.replies)) l.fn.kept.capacity

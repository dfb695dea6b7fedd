use Rattle.std.proofs.Common.{◌≡◌, ◌++◌, take, flat_map}
use Rattle.process_images.specs.process_semantics.specs.Words.{with_count}
use Rattle.checkpoint_image.proofs.putting.put_replies.Given as goal

abbrev pub invariant-loop-words : goal.invariant-loop-words
invariant-loop-words l = l.out ≡ l.initial.out ++ flat_map with_count (take l.words-index l.replies)

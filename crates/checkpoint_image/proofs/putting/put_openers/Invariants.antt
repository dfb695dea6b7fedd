use Rattle.std.proofs.Common.{◌≡◌, ◌++◌, take, flat_map}
use Rattle.checkpoint_image.specs.Layout.{opener_words}
use Rattle.checkpoint_image.proofs.putting.put_openers.Given as goal

abbrev pub invariant-loop-block : goal.invariant-loop-block
invariant-loop-block l = l.out ≡ l.initial.out ++ flat_map opener_words (take l.block-index l.openers)

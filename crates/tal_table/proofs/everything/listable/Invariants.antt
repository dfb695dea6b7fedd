use Rattle.std.proofs.Common.{◌≡◌, ◌++◌, drop}
use Rattle.checkpoint_image.specs.process_images.specs.Images.{listable_from}
use Rattle.tal_table.proofs.everything.listable.Given as goal

abbrev pub invariant-loop-number : goal.invariant-loop-number
invariant-loop-number l = listable_from 0 l.items ≡ l.numbers ++ listable_from l.number (drop l.number l.items)

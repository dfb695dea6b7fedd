use Rattle.std.proofs.Common.{◌≡◌, ◌++◌, drop}
use Rattle.checkpoint_image.specs.process_images.specs.Images.{asking_from}
use Rattle.tal_table.proofs.everything.asking.Given as goal

abbrev pub invariant-loop-number : goal.invariant-loop-number
invariant-loop-number l = asking_from 0 l.files ≡ l.numbers ++ asking_from l.number (drop l.number l.files)

use Rattle.std.proofs.Common.{◌≡◌, ◌++◌, length}
use Rattle.finding_text.specs.Lists.{others_of_files}
use Rattle.finding_text.proofs.lists.push_other_files.Given as goal

abbrev pub invariant-loop-file : goal.invariant-loop-file
invariant-loop-file l = l.all ++ others_of_files l.others l.left ≡ l.fn.all ++ others_of_files l.others l.files

abbrev pub decreases-loop-file : goal.decreases-loop-file
decreases-loop-file l = length l.left

use Rattle.std.proofs.Common.{◌≡◌, ◌++◌, take}
use Rattle.finding_text.specs.Lists.{files_of}
use Rattle.finding_text.proofs.lists.push_files.Given as goal

abbrev pub invariant-loop-file : goal.invariant-loop-file
invariant-loop-file l = l.all ≡ l.fn.all ++ files_of (take l.file-index l.files)

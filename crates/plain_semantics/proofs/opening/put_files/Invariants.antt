use Rattle.std.proofs.Common.{◌≡◌, ◌++◌, drop}
use Rattle.plain_semantics.specs.Openers.{files_from}
use Rattle.plain_semantics.proofs.opening.put_files.Given as goal

abbrev pub invariant-loop-number : goal.invariant-loop-number
invariant-loop-number l = l.initial.all ++ files_from l.name l.process 0 l.files
    ≡ l.all ++ files_from l.name l.process l.number (drop l.number l.files)

use Rattle.std.proofs.Common.{◌≡◌, length}
use Rattle.advice.specs.due_search.specs.Search.{IsClear}
use Rattle.advice.specs.Due.{IsFileDue}
use Rattle.advice_search.specs.Advising.{NoneDeepBefore, AreLeastDepths}
use Rattle.advice_search.specs.Gathered.{AreDue}
use Rattle.advice_search.proofs.advising.find_depths.Given as goal

abbrev pub invariant-loop-file : goal.invariant-loop-file
invariant-loop-file l =
    NoneDeepBefore l.program l.file × AreLeastDepths l.program l.depths × (length l.depths ≡ l.file)
    × (length l.files.sets.items ≡ 2001) × AreDue (IsFileDue l.program) l.files.sets.items l.file
    × IsClear l.search.seen.items × (length l.search.seen.items ≡ length l.fn.search.seen.items)

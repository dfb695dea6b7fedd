use Rattle.std.proofs.Common.{◌≡◌, length}
use Rattle.path_semantics.specs.declared.reason.Reason.TheVariants.{Depth}
use Rattle.due_search.specs.Search.{IsClear}
use Rattle.discipline.specs.Verdict.{NoneBefore}
use Rattle.discipline.proofs.checker.try_depths.Given as goal

abbrev pub invariant-loop-file : goal.invariant-loop-file
invariant-loop-file l =
    NoneBefore l.program (Depth l.file) × IsClear l.search.seen.items
    × (length l.search.seen.items ≡ length l.fn.search.seen.items)

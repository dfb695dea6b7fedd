use Rattle.std.proofs.Common.{◌≡◌, length}
use Rattle.path_semantics.specs.declared.reason.Reason.TheVariants.{Data}
use Rattle.due_search.specs.Search.{IsClear}
use Rattle.discipline.specs.Verdict.{NoneBefore}
use Rattle.discipline.proofs.checker.try_items.Given as goal

abbrev pub invariant-loop-item : goal.invariant-loop-item
invariant-loop-item l =
    NoneBefore l.program (Data l.item) × IsClear l.search.seen.items
    × (length l.search.seen.items ≡ length l.fn.search.seen.items)

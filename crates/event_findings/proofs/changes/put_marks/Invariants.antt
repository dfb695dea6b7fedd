use Rattle.std.proofs.Common.{◌≡◌, ◌++◌, flat_map, take}
use Rattle.event_findings.specs.Changes.{mark_found}
use Rattle.event_findings.proofs.changes.put_marks.Given as goal

abbrev pub invariant-loop-mark : goal.invariant-loop-mark
invariant-loop-mark l = l.findings ≡ l.initial.findings ++ flat_map (mark_found l.before) (take l.mark-index l.after)

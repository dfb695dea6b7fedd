use Rattle.std.proofs.Common.{◌≡◌, ◌++◌, ◌≤◌, length, drop}
use Rattle.tal_print.proofs.work.WorkList.put.Given as goal

-- what is put so far is the end of the row
abbrev pub invariant-loop-k : goal.invariant-loop-k
invariant-loop-k l = (l.k ≤ length l.works) × (l.self.works.items ≡ drop l.k l.works ++ l.initial.self.works.items)

abbrev pub decreases-loop-k : goal.decreases-loop-k
decreases-loop-k l = l.k

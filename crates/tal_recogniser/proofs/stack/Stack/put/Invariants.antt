use Rattle.std.proofs.Common.{◌≡◌, ◌++◌, ◌≤◌, length, drop}
use Rattle.tal_recogniser.proofs.stack.Stack.put.Given as goal

-- what is put so far is the end of the row
abbrev pub invariant-loop-k : goal.invariant-loop-k
invariant-loop-k l = (l.k ≤ length l.row) × (l.self ≡ drop l.k l.row ++ l.initial.self)

abbrev pub decreases-loop-k : goal.decreases-loop-k
decreases-loop-k l = l.k

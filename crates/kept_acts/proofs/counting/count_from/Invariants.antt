use Rattle.std.proofs.Common.{length, ◌-◌, reverse, take}
use Rattle.kept_acts.specs.Counts.{Counts}
use Rattle.kept_acts.proofs.counting.count_from.Given as goal

abbrev pub invariant-loop-place : goal.invariant-loop-place
invariant-loop-place l = Counts l.table (reverse (take l.place l.acts))

abbrev pub decreases-loop-place : goal.decreases-loop-place
decreases-loop-place l = length l.acts - l.place

use Rattle.std.proofs.Common.{length}
use Rattle.world_copies.proofs.Reloads.{IsReloadedFrom}
use Rattle.world_copies.proofs.reloading.reload_all.Given as goal

abbrev pub invariant-loop-last : goal.invariant-loop-last
invariant-loop-last l = IsReloadedFrom l.processor l.initial.processes l.processes l.blanks.items

abbrev pub decreases-loop-last : goal.decreases-loop-last
decreases-loop-last l = length l.blanks.items

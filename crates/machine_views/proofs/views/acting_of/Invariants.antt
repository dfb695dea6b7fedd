use Rattle.std.proofs.Common.{◌≡◌, length}
use Rattle.machine_views.specs.Views.{acting_of}
use Rattle.machine_views.proofs.views.acting_of.Given as goal

abbrev pub invariant-loop-copy : goal.invariant-loop-copy
invariant-loop-copy l = acting_of l.process l.left ≡ acting_of l.process l.copies

abbrev pub decreases-loop-copy : goal.decreases-loop-copy
decreases-loop-copy l = length l.left

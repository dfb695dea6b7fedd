use Rattle.std.proofs.Common.{◌≡◌, ◌++◌, ◌-◌}
use Rattle.machine_views.specs.Views.{each_number, downs_by, downs_in}
use Rattle.machine_views.proofs.nodes.down.Given as goal

abbrev pub invariant-loop-node : goal.invariant-loop-node
invariant-loop-node l = downs_in l.downs ≡ l.down ++ each_number (downs_by l.downs) l.node (17 - l.node)

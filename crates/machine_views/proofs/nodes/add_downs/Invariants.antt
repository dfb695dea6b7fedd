use Rattle.std.proofs.Common.{◌≡◌, ◌++◌, ◌-◌}
use Rattle.machine_views.specs.Views.{each_number, down_of, downs_by}
use Rattle.machine_views.proofs.nodes.add_downs.Given as goal

abbrev pub invariant-loop-processor : goal.invariant-loop-processor
invariant-loop-processor l =
    l.fn.down ++ downs_by l.downs l.node ≡ l.down ++ each_number (down_of l.downs l.node) l.processor (16 - l.processor)

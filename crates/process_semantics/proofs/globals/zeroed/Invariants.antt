use Rattle.std.proofs.Common.{◌≡◌, take, map}
use Rattle.process_semantics.specs.State.{zeros}
use Rattle.tal_values.specs.tal_tree.specs.Shapes.{width}
use Rattle.process_semantics.proofs.globals.zeroed.Given as goal

abbrev pub invariant-loop-item : goal.invariant-loop-item
invariant-loop-item l = l.globals.items ≡ map (λ item. zeros (width item.shape)) (take l.item-index l.items)

use Rattle.std.proofs.Common.{◌≡◌, ◌++◌, take}
use Rattle.std.specs.List.{flat_map}
use Rattle.process_semantics.specs.Image.{item_words}
use Rattle.plain_program.proofs.execution.Execution.put_items.Given as goal

abbrev pub invariant-loop-item : goal.invariant-loop-item
invariant-loop-item l = l.out ≡ l.initial.out ++ flat_map (item_words l.self.state) (take l.item-index l.items)

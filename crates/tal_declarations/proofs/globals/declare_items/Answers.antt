use Rattle.std.proofs.Common.{refl}
use Rattle.tal_syntax.specs.Seen.{seen_item, seen_items}
use Rattle.tal_syntax.specs.declared.declaration.NextItem.{NextItem}
use Rattle.tal_declarations.specs.Globals.{items_faults, with_items, item_faults, with_item}
use Rattle.tal_names.proofs.Turns.{turn_faults, turn_after}
use Rattle.tal_declarations.proofs.globals.declare_items.Goals as goal

pub loop-next-preserved : goal.loop-next-preserved
loop-next-preserved c = record {
  least_is = turn_faults (λ d ns. items_faults d (seen_items ns))
      (λ d (n : NextItem). item_faults d (seen_item n.item)) (λ d n. with_item d (seen_item n.item)) (λ d n ns. refl)
      c.args.more.now c.loop-next.next-index c.next-item.result c.loop-next.declared c.declare_item.new.declared
      c.loop-next.so_far c.judge_item-so_far.result _
      c.next-item.is c.loop-next-test.true c.judge_item-so_far.ensures c.in_ok-declare_item.ensures
      c.loop-next.invariant.least_is;
  state_is = turn_after (λ d ns. with_items d (seen_items ns)) (λ d n. with_item d (seen_item n.item)) (λ d n ns. refl)
      c.args.more.now c.loop-next.next-index c.next-item.result c.loop-next.declared c.declare_item.new.declared _
      c.next-item.is c.loop-next-test.true c.in_ok-declare_item.ensures c.loop-next.invariant.state_is;
}

use Rattle.std.proofs.Common.{◌≡◌, drop}
use Rattle.tal_names.specs.Faults.{least}
use Rattle.tal_declarations.specs.Globals.{items_faults, with_items}
use Rattle.tal_syntax.specs.Seen.{seen_items}
use Rattle.tal_declarations.proofs.globals.declare_items.Given as goal

-- with what is left the least so far is that of all, and what is declared so far becomes what all declare
abbrev pub invariant-loop-next : goal.invariant-loop-next
invariant-loop-next l = record {
  least_is : least l.so_far (items_faults l.declared (seen_items (drop l.next-index l.more)))
      ≡ least l.initial.so_far (items_faults l.initial.declared (seen_items l.more));
  state_is : with_items l.declared (seen_items (drop l.next-index l.more))
      ≡ with_items l.initial.declared (seen_items l.more);
}

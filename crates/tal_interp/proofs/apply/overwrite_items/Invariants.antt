use Rattle.std.proofs.Common.{◌≡◌, ℤ, List, length}
use Rattle.tal_table.specs.whole_states.specs.Whole.{sizes_of, widths_of}
use Rattle.tal_interp.specs.Images.{Overwrites}
use Rattle.tal_interp.proofs.apply.overwrite_items.Given as goal

abbrev pub invariant-loop-number : goal.invariant-loop-number
invariant-loop-number l = record {
  sizes : sizes_of l.globals ≡ widths_of l.table;
  holds : (others : List (List ℤ)) → Overwrites l.table l.fn.globals l.words others
      → Overwrites l.table l.globals l.left others;
}

abbrev pub decreases-loop-number : goal.decreases-loop-number
decreases-loop-number l = length l.left

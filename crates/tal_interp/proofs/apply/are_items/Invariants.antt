use Rattle.std.proofs.Common.{◌≡◌, ◌-◌, ℕ, List, []}
use Rattle.process_semantics.specs.Image.{items_in}
use Rattle.tal_interp.proofs.ListedItems.{Flags}
use Rattle.tal_interp.proofs.apply.are_items.Given as goal

abbrev pub invariant-loop-turn : goal.invariant-loop-turn
invariant-loop-turn l = record {
  names : List ℕ;
  flags : Flags l.named names;
  read : items_in l.table (l.count - l._turn) names [] l.left ≡ items_in l.table l.count [] [] l.words;
}

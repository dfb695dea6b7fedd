use Rattle.std.proofs.Common.{refl}
use Rattle.tal_tree.specs.declared.statement.What.{out-What}
use Rattle.tal_tree.specs.declared.statement.What.TheBlock.{shown-the_row-Statement-0, shape-the_row-Statement-0}
use Rattle.tal_tree.specs.declared.statement.What.TheBlock.{hidden-the_row-Statement-0}
use denote.Hole.Carrier.{shown, hidden, out}
use Rattle.process_guards.proofs.images.each_entry_has_its_number.Goals as goal

pub returns : goal.returns
unfolding shown-the_row-Statement-0 shown out-What out shape-the_row-Statement-0 hidden-the_row-Statement-0 hidden
returns c = record {
  test = refl;
  test_restored = refl;
  last = refl;
  last_restored = refl;
  at_the_end = refl;
  at_the_end_restored = refl;
}

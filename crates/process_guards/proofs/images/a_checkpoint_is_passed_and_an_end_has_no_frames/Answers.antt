use Rattle.std.proofs.Common.{refl}
use Rattle.tal_tree.specs.declared.statement.What.{out-What}
use Rattle.tal_tree.specs.declared.statement.What.TheBlock.{shown-the_row-Statement-0, shape-the_row-Statement-0}
use Rattle.tal_tree.specs.declared.statement.What.TheBlock.{hidden-the_row-Statement-0}
use denote.Hole.Carrier.{shown, hidden, out}
use Rattle.process_guards.proofs.images.a_checkpoint_is_passed_and_an_end_has_no_frames.Goals as goal

pub returns : goal.returns
unfolding shown-the_row-Statement-0 shown out-What out shape-the_row-Statement-0 hidden-the_row-Statement-0 hidden
returns c = record {
  checkpoint = refl;
  checkpoint_restored = refl;
  end = refl;
  end_restored = refl;
}

use Rattle.std.proofs.Common.{refl}
use Rattle.tal_tree.specs.declared.statement.What.{out-What}
use Rattle.tal_tree.specs.declared.statement.What.TheBlock.{shown-the_row-Statement-0, shape-the_row-Statement-0}
use Rattle.tal_tree.specs.declared.statement.What.TheBlock.{hidden-the_row-Statement-0}
use denote.Hole.Carrier.{shown, hidden, out}
use Rattle.process_guards.proofs.images.an_image_has_frames_and_items.Goals as goal

pub returns : goal.returns
unfolding shown-the_row-Statement-0 shown out-What out shape-the_row-Statement-0 hidden-the_row-Statement-0 hidden
returns c = record {
  call = refl;
  items = refl;
  restored = refl;
  not_listed = refl;
}

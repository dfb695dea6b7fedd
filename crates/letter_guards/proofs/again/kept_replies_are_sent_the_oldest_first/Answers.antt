use Rattle.std.proofs.Common.{refl}
use Rattle.std.specs.Int.{int_wrap}
use denote.Hole.Carrier.{shown, hidden, out}
use Rattle.tal_tree.specs.declared.statement.What.{out-What}
use Rattle.tal_tree.specs.declared.statement.What.TheBlock.{shown-the_row-Statement-0, shape-the_row-Statement-0}
use Rattle.tal_tree.specs.declared.statement.What.TheBlock.{hidden-the_row-Statement-0}
use Rattle.letter_guards.proofs.again.kept_replies_are_sent_the_oldest_first.Goals as goal

pub returns : goal.returns
unfolding shown-the_row-Statement-0 shown out-What out shape-the_row-Statement-0 hidden-the_row-Statement-0 hidden
    int_wrap
returns c = record {
  sent = refl;
  answered = refl;
  in_hand = refl;
  another_in_hand = refl;
  none = refl;
}

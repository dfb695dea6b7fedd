use Rattle.std.proofs.Common.{[], ◌∷◌, refl}
use denote.Hole.Carrier.{shown, out}
use Rattle.tal_tree.specs.declared.statement.What.{out-What}
use Rattle.tal_tree.specs.declared.statement.What.TheBlock.{shown-the_row-Statement-0}
use Rattle.advice_guards.specs.Programs.{two_lists, asking_once, asking_twice, asking_four}
use Rattle.advice_guards.proofs.All.{two_lists-all, asking_once-all, asking_twice-all, asking_four-all}
use Rattle.advice_guards.proofs.Listed.{one-least, more-least}
use Rattle.advice_guards.proofs.Stands.{two_stands, two_ways, three_ways, once_stands, twice_stands, four_stands}
use Rattle.advice_guards.proofs.Stands.{four_ways}
use Rattle.advice_guards.proofs.depths.a_depth_is_as_many_as_are_asked.Goals as goal

pub returns-clause-unasked : goal.returns-clause-unasked
unfolding out-What shown-the_row-Statement-0 shown out
returns-clause-unasked c = one-least two_lists two_stands two_ways two_lists-all 1 refl

pub returns-clause-other : goal.returns-clause-other
unfolding out-What shown-the_row-Statement-0 shown out
returns-clause-other c = one-least asking_twice twice_stands three_ways asking_twice-all 0 refl

pub returns-clause-once : goal.returns-clause-once
unfolding out-What shown-the_row-Statement-0 shown out
returns-clause-once c = one-least asking_once once_stands three_ways asking_once-all 1 refl

pub returns-clause-twice : goal.returns-clause-twice
unfolding out-What shown-the_row-Statement-0 shown out
returns-clause-twice c = more-least asking_twice twice_stands three_ways asking_twice-all 1 1 (1 ∷ []) refl refl

pub returns-clause-four : goal.returns-clause-four
unfolding out-What shown-the_row-Statement-0 shown out
returns-clause-four c = more-least asking_four four_stands four_ways asking_four-all 1 3 (1 ∷ 2 ∷ 3 ∷ []) refl refl

use Rattle.std.proofs.Common.{[], ◌∷◌, refl}
use denote.Hole.Carrier.{shown, out}
use Rattle.tal_tree.specs.declared.statement.What.{out-What}
use Rattle.tal_tree.specs.declared.statement.What.TheBlock.{shown-the_row-Statement-0}
use Rattle.path_semantics.specs.declared.reason.Reason.TheVariants.{Input, Depth}
use Rattle.path_semantics.proofs.Reaching.{breaks-if}
use Rattle.advice.specs.Choice.{deepest}
use Rattle.advice_guards.specs.Programs.{asking_four, asking_five, hasty}
use Rattle.advice_guards.proofs.All.{deepest_four-all}
use Rattle.advice_guards.proofs.Listed.{unbroken}
use Rattle.advice_guards.proofs.Stands.{four_stands, four_ways}
use Rattle.advice_guards.proofs.depths.five_asks_are_beyond_every_depth.Goals as goal

pub returns-clause-four : goal.returns-clause-four
unfolding out-What shown-the_row-Statement-0 shown out
returns-clause-four c = unbroken (deepest asking_four) four_stands four_ways deepest_four-all (Depth 1) refl

pub returns-clause-five : goal.returns-clause-five
unfolding out-What shown-the_row-Statement-0 shown out
returns-clause-five c = (breaks-if (deepest asking_five) (1 ∷ 2 ∷ 3 ∷ 4 ∷ []) 5 (Depth 1)).0 refl

pub returns-clause-input : goal.returns-clause-input
unfolding out-What shown-the_row-Statement-0 shown out
returns-clause-input c = (breaks-if (deepest hasty) (1 ∷ []) 2 Input).0 refl

-- The stands that are told are all to which the paths of these programs lead.
use Rattle.std.proofs.Common.{refl}
use denote.Hole.Carrier.{shown, out}
use Rattle.tal_tree.specs.declared.statement.What.{out-What}
use Rattle.tal_tree.specs.declared.statement.What.TheBlock.{shown-the_row-Statement-0}
use Rattle.advice.specs.Choice.{deepest}
use Rattle.advice_guards.specs.Programs.{two_lists, elements, asking_once, asking_twice, asking_four, asking_five}
use Rattle.advice_guards.specs.Programs.{unreached, branching, calling, targeting, shared, again, until}
use Rattle.advice_guards.specs.Programs.{serving}
use Rattle.advice_guards.proofs.Listed.{AreAll}
use Rattle.advice_guards.proofs.Stands.{again_stands, again_ways, branching_stands, branching_ways, calling_stands}
use Rattle.advice_guards.proofs.Stands.{element_stands, five_stands, four_stands, four_ways, once_stands}
use Rattle.advice_guards.proofs.Stands.{serving_stands, serving_ways, shared_stands, shared_ways, targeting_stands}
use Rattle.advice_guards.proofs.Stands.{three_ways, twice_stands, two_stands, two_ways, unreached_stands}
use Rattle.advice_guards.proofs.Stands.{unreached_ways, until_stands, until_ways}

pub two_lists-all : AreAll two_lists two_stands two_ways
unfolding out-What shown-the_row-Statement-0 shown out
two_lists-all = record { begins = refl; lead = refl }

pub elements-all : AreAll elements element_stands three_ways
unfolding out-What shown-the_row-Statement-0 shown out
elements-all = record { begins = refl; lead = refl }

pub asking_once-all : AreAll asking_once once_stands three_ways
unfolding out-What shown-the_row-Statement-0 shown out
asking_once-all = record { begins = refl; lead = refl }

pub asking_twice-all : AreAll asking_twice twice_stands three_ways
unfolding out-What shown-the_row-Statement-0 shown out
asking_twice-all = record { begins = refl; lead = refl }

pub asking_four-all : AreAll asking_four four_stands four_ways
unfolding out-What shown-the_row-Statement-0 shown out
asking_four-all = record { begins = refl; lead = refl }

pub unreached-all : AreAll unreached unreached_stands unreached_ways
unfolding out-What shown-the_row-Statement-0 shown out
unreached-all = record { begins = refl; lead = refl }

pub branching-all : AreAll branching branching_stands branching_ways
unfolding out-What shown-the_row-Statement-0 shown out
branching-all = record { begins = refl; lead = refl }

pub calling-all : AreAll calling calling_stands four_ways
unfolding out-What shown-the_row-Statement-0 shown out
calling-all = record { begins = refl; lead = refl }

pub targeting-all : AreAll targeting targeting_stands three_ways
unfolding out-What shown-the_row-Statement-0 shown out
targeting-all = record { begins = refl; lead = refl }

pub shared-all : AreAll shared shared_stands shared_ways
unfolding out-What shown-the_row-Statement-0 shown out
shared-all = record { begins = refl; lead = refl }

pub again-all : AreAll again again_stands again_ways
unfolding out-What shown-the_row-Statement-0 shown out
again-all = record { begins = refl; lead = refl }

pub until-all : AreAll until until_stands until_ways
unfolding out-What shown-the_row-Statement-0 shown out
until-all = record { begins = refl; lead = refl }

pub serving-all : AreAll serving serving_stands serving_ways
unfolding out-What shown-the_row-Statement-0 shown out
serving-all = record { begins = refl; lead = refl }

pub deepest_four-all : AreAll (deepest asking_four) four_stands four_ways
unfolding out-What shown-the_row-Statement-0 shown out
deepest_four-all = record { begins = refl; lead = refl }

pub deepest_five-all : AreAll (deepest asking_five) five_stands two_ways
unfolding out-What shown-the_row-Statement-0 shown out
deepest_five-all = record { begins = refl; lead = refl }

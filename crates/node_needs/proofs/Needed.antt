-- The needs of nodes, computed.
use Rattle.std.proofs.Common.{◌≡◌, [], ◌∷◌, ◌++◌, refl}
use Rattle.std.specs.Int.{int_wrap}
use denote.Hole.Carrier.{shown, out}
use Rattle.message_wires.specs.tal_tree.specs.declared.statement.What.{out-What}
use Rattle.message_wires.specs.tal_tree.specs.declared.statement.What.TheBlock.{shown-the_row-Statement-0}
use Rattle.schedule.specs.declared.event.Event.TheVariants as event
use Rattle.message_wires.specs.world_semantics.specs.Examples.{delivery, run}
use Rattle.message_wires.specs.Examples.{up_to_checkpoint}
use Rattle.message_wires.specs.Tiers.{before_stop, tiers}
use Rattle.standing_links.specs.Needs.{nothing}
use Rattle.node_needs.specs.NodeNeeds.{needs_at}
use Rattle.node_needs.specs.Examples.{awaited_alone, both_serve, in_hand_alone, needs_after, until_answered}
use Rattle.node_needs.specs.Examples.{until_it_came, until_taken_over, waiting_alone}

pub nowhere : needs_after [] 0 ≡ nothing
unfolding out-What shown-the_row-Statement-0 shown out int_wrap
nowhere = refl

pub entered : needs_after (event.Enter 0 ∷ []) 16 ≡ awaited_alone
unfolding out-What shown-the_row-Statement-0 shown out int_wrap
entered = refl

pub not_yet : needs_after (event.Enter 0 ∷ []) 0 ≡ nothing
unfolding out-What shown-the_row-Statement-0 shown out int_wrap
not_yet = refl

pub came : needs_after until_it_came 0 ≡ waiting_alone
unfolding out-What shown-the_row-Statement-0 shown out int_wrap
came = refl

pub elsewhere : needs_after until_it_came 1 ≡ nothing
unfolding out-What shown-the_row-Statement-0 shown out int_wrap
elsewhere = refl

pub taken : needs_after (until_it_came ++ run ∷ []) 0 ≡ in_hand_alone
unfolding out-What shown-the_row-Statement-0 shown out int_wrap
taken = refl

pub answered : needs_after until_answered 0 ≡ nothing
unfolding out-What shown-the_row-Statement-0 shown out int_wrap
answered = refl

pub awaited : needs_after until_answered 16 ≡ awaited_alone
unfolding out-What shown-the_row-Statement-0 shown out int_wrap
awaited = refl

pub before : needs_after until_taken_over 1 ≡ in_hand_alone
unfolding out-What shown-the_row-Statement-0 shown out int_wrap
before = refl

pub lost : needs_after until_taken_over 0 ≡ nothing
unfolding out-What shown-the_row-Statement-0 shown out int_wrap
lost = refl

pub awaited_on : needs_after until_taken_over 16 ≡ awaited_alone
unfolding out-What shown-the_row-Statement-0 shown out int_wrap
awaited_on = refl

pub watched : needs_after (up_to_checkpoint ++ delivery ∷ []) 1 ≡ nothing
unfolding out-What shown-the_row-Statement-0 shown out int_wrap
watched = refl

pub gone : needs_after (until_it_came ++ event.Fail 0 ∷ []) 0 ≡ nothing
unfolding out-What shown-the_row-Statement-0 shown out int_wrap
gone = refl

pub acting : needs_at tiers (before_stop 12).world 0 ≡ both_serve
unfolding out-What shown-the_row-Statement-0 shown out int_wrap
acting = refl

pub watching : needs_at tiers (before_stop 12).world 1 ≡ nothing
unfolding out-What shown-the_row-Statement-0 shown out int_wrap
watching = refl

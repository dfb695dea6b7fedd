-- A request is served, and a lost piece is sent again: played.
use Rattle.std.proofs.Common.{◌≡◌, pos, true, [], ◌∷◌, refl}
use Rattle.std.specs.Int.{int_wrap}
use denote.Hole.Carrier.{shown, out}
use Rattle.tal_tree.specs.declared.statement.What.{out-What}
use Rattle.tal_tree.specs.declared.statement.What.TheBlock.{shown-the_row-Statement-0}
use Rattle.message_layout.specs.world_semantics.specs.Examples.{reply}
use Rattle.packet_wires.specs.Idle.{is_idle}
use Rattle.packet_wires.specs.Sights.{buses_from, end_of}
use Rattle.packet_wires.specs.Examples.{adder_at_boot, buses_of_lost, buses_to_checkpoint, buses_to_reply, lost_piece}
use Rattle.packet_wires.specs.Examples.{served, up_to_checkpoint, up_to_reply}

pub serving-checkpoint : buses_from adder_at_boot up_to_checkpoint ≡ buses_to_checkpoint
unfolding out-What shown-the_row-Statement-0 shown out int_wrap
serving-checkpoint = refl

pub serving-answer : buses_from (end_of adder_at_boot up_to_checkpoint) up_to_reply ≡ buses_to_reply
unfolding out-What shown-the_row-Statement-0 shown out int_wrap
serving-answer = refl

pub serving-shown : served.world.shown ≡ reply 0 (pos 5) ∷ []
unfolding out-What shown-the_row-Statement-0 shown out int_wrap
serving-shown = refl

pub serving-idle : is_idle served ≡ true
unfolding out-What shown-the_row-Statement-0 shown out int_wrap
serving-idle = refl

pub again-all : buses_from adder_at_boot lost_piece ≡ buses_of_lost
unfolding out-What shown-the_row-Statement-0 shown out int_wrap
again-all = refl

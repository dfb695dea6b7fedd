-- A processor stops between two pieces: played.
use Rattle.std.proofs.Common.{◌≡◌, pos, true, false, [], ◌∷◌, refl}
use Rattle.std.specs.Int.{int_wrap}
use denote.Hole.Carrier.{shown, out}
use Rattle.tal_tree.specs.declared.statement.What.{out-What}
use Rattle.tal_tree.specs.declared.statement.What.TheBlock.{shown-the_row-Statement-0}
use Rattle.message_layout.specs.world_semantics.specs.Examples.{reply}
use Rattle.packet_wires.specs.Idle.{is_idle}
use Rattle.packet_wires.specs.Sights.{buses_from, end_of}
use Rattle.packet_wires.specs.Examples.{after_takeover, before_third_piece, buses_alone, taken_over, ticks_alone}

pub part-stopped : before_third_piece.world.stopped ≡ true ∷ false ∷ []
unfolding out-What shown-the_row-Statement-0 shown out int_wrap
part-stopped = refl

pub part-alone : buses_from before_third_piece ticks_alone ≡ buses_alone
unfolding out-What shown-the_row-Statement-0 shown out int_wrap
part-alone = refl

pub part-marked : taken_over.world.downs ≡ record { node = 1; down = 0 } ∷ []
unfolding out-What shown-the_row-Statement-0 shown out int_wrap
part-marked = refl

pub part-shown : (end_of taken_over after_takeover).world.shown ≡ reply 0 (pos 5) ∷ []
unfolding out-What shown-the_row-Statement-0 shown out int_wrap
part-shown = refl

pub part-idle : is_idle (end_of taken_over after_takeover) ≡ true
unfolding out-What shown-the_row-Statement-0 shown out int_wrap
part-idle = refl

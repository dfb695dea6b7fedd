-- A processor is loaded again while packets of before are on a bus: played.
use Rattle.std.proofs.Common.{◌≡◌, true, false, [], ◌∷◌, refl}
use Rattle.std.specs.Int.{int_wrap}
use denote.Hole.Carrier.{shown, out}
use Rattle.tal_tree.specs.declared.statement.What.{out-What}
use Rattle.tal_tree.specs.declared.statement.What.TheBlock.{shown-the_row-Statement-0}
use Rattle.message_layout.specs.world_semantics.specs.World.{is_whole}
use Rattle.message_wires.specs.machine_states.specs.States.{Would, SecondStop}
use Rattle.schedule.specs.declared.event.Event.TheVariants as event
use Rattle.packet_wires.specs.Play.{play}
use Rattle.packet_wires.specs.Sights.{acknowledged, end_of, last, piece, seen}
use Rattle.packet_wires.specs.Examples.{loaded_0, renewed, renewing, without_old}

pub loaded-stopped : loaded_0.world.stopped ≡ false ∷ false ∷ []
unfolding out-What shown-the_row-Statement-0 shown out int_wrap
loaded-stopped = refl

pub loaded-marks : loaded_0.world.downs ≡ []
unfolding out-What shown-the_row-Statement-0 shown out int_wrap
loaded-marks = refl

pub old-dropped : (seen without_old).x ≡ acknowledged 16 1 1 ∷ last 16 1 1 ∷ []
unfolding out-What shown-the_row-Statement-0 shown out int_wrap
old-dropped = refl

pub renewing-sends : (seen renewing).x ≡ acknowledged 16 1 1 ∷ last 16 1 1 ∷ piece 1 0 1 ∷ []
unfolding out-What shown-the_row-Statement-0 shown out int_wrap
renewing-sends = refl

pub renewing-second : play renewing (event.Fail 1) ≡ Would (SecondStop 1)
unfolding out-What shown-the_row-Statement-0 shown out int_wrap
renewing-second = refl

pub renewed-whole : is_whole renewed.world ≡ true
unfolding out-What shown-the_row-Statement-0 shown out int_wrap
renewed-whole = refl

pub renewed-stops : (end_of renewed (event.Fail 1 ∷ [])).world.stopped ≡ false ∷ true ∷ []
unfolding out-What shown-the_row-Statement-0 shown out int_wrap
renewed-stops = refl

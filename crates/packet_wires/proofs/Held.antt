-- A muted processor is held: played.
use Rattle.std.proofs.Common.{◌≡◌, true, false, [], ◌∷◌, refl}
use Rattle.std.specs.Int.{int_wrap}
use denote.Hole.Carrier.{shown, out}
use Rattle.tal_tree.specs.declared.statement.What.{out-What}
use Rattle.tal_tree.specs.declared.statement.What.TheBlock.{shown-the_row-Statement-0}
use Rattle.schedule.specs.declared.event.Event.TheVariants as event
use Rattle.packet_wires.specs.Sights.{acknowledged, alive, end_of, last, seen}
use Rattle.packet_wires.specs.Examples.{after_four, buses_held, down_twice, held, rounds, three_at_boot}

pub held-before : after_four.world.stopped ≡ false ∷ false ∷ false ∷ []
unfolding out-What shown-the_row-Statement-0 shown out int_wrap
held-before = refl

pub held-stopped : held.world.stopped ≡ false ∷ true ∷ false ∷ []
unfolding out-What shown-the_row-Statement-0 shown out int_wrap
held-stopped = refl

pub held-marks : held.world.downs ≡ record { node = 0; down = 1 } ∷ []
unfolding out-What shown-the_row-Statement-0 shown out int_wrap
held-marks = refl

pub held-buses : seen held ≡ buses_held
unfolding out-What shown-the_row-Statement-0 shown out int_wrap
held-buses = refl

pub heard-all : (end_of (rounds 3 4 three_at_boot) (event.Tick 0 ∷ [])).world.stopped ≡ false ∷ false ∷ false ∷ []
unfolding out-What shown-the_row-Statement-0 shown out int_wrap
heard-all = refl

pub twice-marks : (end_of held down_twice).world.downs
    ≡ record { node = 2; down = 1 } ∷ record { node = 0; down = 1 } ∷ []
unfolding out-What shown-the_row-Statement-0 shown out int_wrap
twice-marks = refl

pub twice-buses : (seen (end_of held down_twice)).x
    ≡ alive 0 1 ∷ alive 0 2 ∷ last 0 16 1 ∷ acknowledged 2 0 2 ∷ acknowledged 2 0 2 ∷ []
unfolding out-What shown-the_row-Statement-0 shown out int_wrap
twice-buses = refl

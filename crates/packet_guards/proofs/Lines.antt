-- Who pulls which line, computed.
use Rattle.std.proofs.Common.{◌≡◌, true, false, [], ◌∷◌, refl}
use Rattle.std.specs.Int.{int_wrap}
use denote.Hole.Carrier.{shown, out}
use Rattle.tal_tree.specs.declared.statement.What.{out-What}
use Rattle.tal_tree.specs.declared.statement.What.TheBlock.{shown-the_row-Statement-0}
use Rattle.schedule.specs.declared.bus_name.BusName.TheVariants as bus
use Rattle.schedule.specs.declared.event.Event.TheVariants as event
use Rattle.machine_states.specs.States.{Skips, Would, SecondStop}
use Rattle.packet_wires.specs.Play.{play}
use Rattle.packet_wires.specs.Sights.{alive, end_of, last, seen}
use Rattle.packet_wires.specs.Examples.{after_four, held}
use Rattle.packet_guards.specs.States.{after_three, first_muted, laden, none_stopped, one_gone, second_silent, ticks}
use Rattle.packet_guards.specs.States.{told}

pub two-checks-make-silent-three : (end_of one_gone (ticks 1 3)).world.downs ≡ []
unfolding out-What shown-the_row-Statement-0 shown out int_wrap
two-checks-make-silent-three = refl

pub two-checks-make-silent-four : (end_of one_gone (ticks 1 4)).world.downs ≡ record { node = 1; down = 0 } ∷ []
unfolding out-What shown-the_row-Statement-0 shown out int_wrap
two-checks-make-silent-four = refl

pub two-checks-make-silent-heard : (end_of (end_of laden (ticks 0 3))
    (event.Deliver bus.Y 0 ∷ event.Tick 0 ∷ [])).world.downs ≡ []
unfolding out-What shown-the_row-Statement-0 shown out int_wrap
two-checks-make-silent-heard = refl

pub two-checks-make-silent-unheard : (end_of (end_of laden (ticks 0 3))
    (event.Lose bus.Y 0 ∷ event.Tick 0 ∷ [])).world.downs ≡ record { node = 0; down = 1 } ∷ []
unfolding out-What shown-the_row-Statement-0 shown out int_wrap
two-checks-make-silent-unheard = refl

pub the-coordinator-pulls-unreported : (end_of after_three (event.Tick 0 ∷ [])).world.stopped
    ≡ false ∷ false ∷ false ∷ []
unfolding out-What shown-the_row-Statement-0 shown out int_wrap
the-coordinator-pulls-unreported = refl

pub the-coordinator-pulls-other : (end_of after_four (event.Tick 2 ∷ event.Tick 1 ∷ [])).world.stopped
    ≡ false ∷ false ∷ false ∷ []
unfolding out-What shown-the_row-Statement-0 shown out int_wrap
the-coordinator-pulls-other = refl

pub the-coordinator-pulls-lowest : (end_of after_four (event.Tick 0 ∷ [])).world.stopped ≡ false ∷ true ∷ false ∷ []
unfolding out-What shown-the_row-Statement-0 shown out int_wrap
the-coordinator-pulls-lowest = refl

pub the-coordinator-pulls-next-lowest : (end_of first_muted (event.Tick 2 ∷ [])).world.stopped
    ≡ false ∷ false ∷ false ∷ []
unfolding out-What shown-the_row-Statement-0 shown out int_wrap
the-coordinator-pulls-next-lowest = refl

pub the-coordinator-pulls-pulls : (end_of first_muted (event.Tick 1 ∷ [])).world.stopped ≡ true ∷ false ∷ false ∷ []
unfolding out-What shown-the_row-Statement-0 shown out int_wrap
the-coordinator-pulls-pulls = refl

pub all-others-are-told-downs : held.world.downs ≡ record { node = 0; down = 1 } ∷ []
unfolding out-What shown-the_row-Statement-0 shown out int_wrap
all-others-are-told-downs = refl

pub all-others-are-told-buses : (seen held).x ≡ alive 0 1 ∷ alive 0 2 ∷ last 0 2 2 ∷ last 0 16 1 ∷ []
unfolding out-What shown-the_row-Statement-0 shown out int_wrap
all-others-are-told-buses = refl

pub all-others-are-told-terminals : told.world.downs
    ≡ record { node = 16; down = 0 } ∷ record { node = 1; down = 0 } ∷ []
unfolding out-What shown-the_row-Statement-0 shown out int_wrap
all-others-are-told-terminals = refl

pub no-second-stop-line : play second_silent (event.Tick 0) ≡ Would (SecondStop 2)
unfolding out-What shown-the_row-Statement-0 shown out int_wrap
no-second-stop-line = refl

pub no-second-stop-first : (end_of none_stopped (event.Tick 0 ∷ [])).world.stopped ≡ false ∷ false ∷ true ∷ []
unfolding out-What shown-the_row-Statement-0 shown out int_wrap
no-second-stop-first = refl

pub no-second-stop-fails : play one_gone (event.Fail 1) ≡ Would (SecondStop 1)
unfolding out-What shown-the_row-Statement-0 shown out int_wrap
no-second-stop-fails = refl

pub no-second-stop-again : play one_gone (event.Fail 0) ≡ Skips
unfolding out-What shown-the_row-Statement-0 shown out int_wrap
no-second-stop-again = refl

-- What marks and stops leave, computed.
use Rattle.std.proofs.Common.{◌≡◌, true, [], ◌∷◌, refl}
use Rattle.std.specs.Int.{int_wrap}
use denote.Hole.Carrier.{shown, out}
use Rattle.tal_tree.specs.declared.statement.What.{out-What}
use Rattle.tal_tree.specs.declared.statement.What.TheBlock.{shown-the_row-Statement-0}
use Rattle.schedule.specs.declared.bus_name.BusName.TheVariants as bus
use Rattle.schedule.specs.declared.event.Event.TheVariants as event
use Rattle.machine_states.specs.States.{Skips}
use Rattle.message_layout.specs.Messages.{Declaring}
use Rattle.packet_wires.specs.Idle.{holds_nothing}
use Rattle.packet_wires.specs.Nodes.{end_at}
use Rattle.packet_wires.specs.Play.{underway, handed, play}
use Rattle.packet_wires.specs.Sights.{alive, end_of, last, seen}
use Rattle.packet_wires.specs.Examples.{adder_at_boot, taken_over}
use Rattle.packet_guards.specs.States.{one_gone}

pub a-mark-closes-the-channel-thrown : holds_nothing (end_at taken_over.wires.nodes 1 0) ≡ true
unfolding out-What shown-the_row-Statement-0 shown out int_wrap
a-mark-closes-the-channel-thrown = refl

pub a-mark-closes-the-channel-dropped : (seen (end_of taken_over (event.Deliver bus.X 0 ∷ []))).x
    ≡ alive 1 0 ∷ alive 1 0 ∷ alive 1 0 ∷ alive 1 0 ∷ last 1 0 1 ∷ last 1 16 1 ∷ []
unfolding out-What shown-the_row-Statement-0 shown out int_wrap
a-mark-closes-the-channel-dropped = refl

pub a-mark-closes-the-channel-no-more-alive : (seen (end_of taken_over (event.Tick 1 ∷ []))).y
    ≡ alive 1 0 ∷ alive 1 0 ∷ alive 1 0 ∷ alive 1 0 ∷ []
unfolding out-What shown-the_row-Statement-0 shown out int_wrap
a-mark-closes-the-channel-no-more-alive = refl

pub who-has-stopped-does-nothing-ticks : play one_gone (event.Tick 0) ≡ Skips
unfolding out-What shown-the_row-Statement-0 shown out int_wrap
who-has-stopped-does-nothing-ticks = refl

pub who-has-stopped-does-nothing-drops : (end_of one_gone (event.Enter 0 ∷ event.Deliver bus.X 0 ∷ [])).wires.x ≡ []
unfolding out-What shown-the_row-Statement-0 shown out int_wrap
who-has-stopped-does-nothing-drops = refl

pub who-has-stopped-does-nothing-runs : (seen (end_of one_gone (event.Enter 0 ∷ []))).x ≡ last 16 0 1 ∷ []
unfolding out-What shown-the_row-Statement-0 shown out int_wrap
who-has-stopped-does-nothing-runs = refl

pub no-mark-on-suspicion-runs : handed 1 (Declaring 0) (underway adder_at_boot) ≡ underway adder_at_boot
unfolding out-What shown-the_row-Statement-0 shown out int_wrap
no-mark-on-suspicion-runs = refl

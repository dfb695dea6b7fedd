-- What is on the buses, computed.
use Rattle.std.proofs.Common.{◌≡◌, [], ◌∷◌, Some, None, refl}
use Rattle.std.specs.Int.{int_wrap}
use denote.Hole.Carrier.{shown, out}
use Rattle.tal_tree.specs.declared.statement.What.{out-What}
use Rattle.tal_tree.specs.declared.statement.What.TheBlock.{shown-the_row-Statement-0}
use Rattle.schedule.specs.declared.event.Event.TheVariants as event
use Rattle.schedule.specs.declared.bus_name.BusName.TheVariants.{X, Y}
use Rattle.packet_words.specs.declared.packet.PacketKind.TheVariants as kind
use Rattle.machine_states.specs.States.{Skips}
use Rattle.packet_wires.specs.Play.{count_on, kind_at, play, sender_at}
use Rattle.packet_wires.specs.Sights.{acknowledged, alive, end_of, last, piece, seen}
use Rattle.packet_wires.specs.Examples.{adder_at_boot}
use Rattle.packet_guards.specs.States.{after_three, first_piece_again, laden, stray, ticks, told}

pub events-name-positions-deliver : (end_of laden (event.Deliver X 1 ∷ [])).wires.x ≡ stray 5 ∷ stray 7 ∷ []
unfolding out-What shown-the_row-Statement-0 shown out int_wrap
events-name-positions-deliver = refl

pub events-name-positions-lose : (end_of laden (event.Lose X 1 ∷ [])).wires.x ≡ stray 5 ∷ stray 7 ∷ []
unfolding out-What shown-the_row-Statement-0 shown out int_wrap
events-name-positions-lose = refl

pub events-name-positions-repeat : (end_of laden (event.Repeat X 1 ∷ [])).wires.x
    ≡ stray 5 ∷ stray 6 ∷ stray 7 ∷ stray 6 ∷ []
unfolding out-What shown-the_row-Statement-0 shown out int_wrap
events-name-positions-repeat = refl

pub events-name-positions-other-bus : (end_of laden (event.Lose Y 0 ∷ [])).wires.y ≡ []
unfolding out-What shown-the_row-Statement-0 shown out int_wrap
events-name-positions-other-bus = refl

pub events-name-positions-past : play laden (event.Deliver X 3) ≡ Skips
unfolding out-What shown-the_row-Statement-0 shown out int_wrap
events-name-positions-past = refl

pub events-name-positions-past-lose : play laden (event.Lose Y 1) ≡ Skips
unfolding out-What shown-the_row-Statement-0 shown out int_wrap
events-name-positions-past-lose = refl

pub events-name-positions-past-repeat : play laden (event.Repeat Y 1) ≡ Skips
unfolding out-What shown-the_row-Statement-0 shown out int_wrap
events-name-positions-past-repeat = refl

pub positions-are-told-count : count_on laden X ≡ 3
unfolding out-What shown-the_row-Statement-0 shown out int_wrap
positions-are-told-count = refl

pub positions-are-told-count-y : count_on laden Y ≡ 1
unfolding out-What shown-the_row-Statement-0 shown out int_wrap
positions-are-told-count-y = refl

pub positions-are-told-kind : kind_at laden X 1 ≡ Some (kind.Acknowledgement 6)
unfolding out-What shown-the_row-Statement-0 shown out int_wrap
positions-are-told-kind = refl

pub positions-are-told-kind-y : kind_at laden Y 0 ≡ Some kind.Alive
unfolding out-What shown-the_row-Statement-0 shown out int_wrap
positions-are-told-kind-y = refl

pub positions-are-told-sender : sender_at laden Y 0 ≡ Some 1
unfolding out-What shown-the_row-Statement-0 shown out int_wrap
positions-are-told-sender = refl

pub positions-are-told-past : sender_at laden X 3 ≡ None
unfolding out-What shown-the_row-Statement-0 shown out int_wrap
positions-are-told-past = refl

pub a-tick-sends-in-order-report : (seen (end_of after_three (event.Tick 0 ∷ []))).x
    ≡ alive 0 1 ∷ alive 0 2 ∷ last 0 1 1 ∷ last 0 2 1 ∷ []
unfolding out-What shown-the_row-Statement-0 shown out int_wrap
a-tick-sends-in-order-report = refl

pub a-tick-sends-in-order-alive-y : (seen (end_of after_three (event.Tick 0 ∷ []))).y ≡ alive 0 1 ∷ alive 0 2 ∷ []
unfolding out-What shown-the_row-Statement-0 shown out int_wrap
a-tick-sends-in-order-alive-y = refl

pub a-tick-sends-in-order-again : (seen first_piece_again).y ≡ alive 0 1 ∷ alive 0 1 ∷ piece 0 1 1 ∷ []
unfolding out-What shown-the_row-Statement-0 shown out int_wrap
a-tick-sends-in-order-again = refl

pub a-tick-sends-in-order-terminals : seen (end_of adder_at_boot (ticks 16 4)) ≡ record { x = []; y = [] }
unfolding out-What shown-the_row-Statement-0 shown out int_wrap
a-tick-sends-in-order-terminals = refl

pub answers-take-their-bus-acknowledgement : (seen (end_of first_piece_again (event.Deliver Y 2 ∷ []))).y
    ≡ alive 0 1 ∷ alive 0 1 ∷ acknowledged 1 0 1 ∷ []
unfolding out-What shown-the_row-Statement-0 shown out int_wrap
answers-take-their-bus-acknowledgement = refl

pub answers-take-their-bus-next : (seen
    (end_of first_piece_again (event.Deliver Y 2 ∷ event.Deliver Y 2 ∷ []))).x
    ≡ alive 0 1 ∷ alive 0 1 ∷ piece 0 1 2 ∷ []
unfolding out-What shown-the_row-Statement-0 shown out int_wrap
answers-take-their-bus-next = refl

pub an-acknowledgement-goes-first-all : (seen told).x
    ≡ last 0 1 3 ∷ alive 1 0 ∷ alive 1 0 ∷ alive 1 0 ∷ alive 1 0 ∷ last 1 0 1 ∷ acknowledged 16 1 1 ∷ last 16 1 1 ∷ []
unfolding out-What shown-the_row-Statement-0 shown out int_wrap
an-acknowledgement-goes-first-all = refl

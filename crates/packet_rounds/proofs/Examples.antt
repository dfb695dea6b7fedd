-- What the first tick of a processor sends, and what comes of four ticks.
use Rattle.std.proofs.Common.{◌≡◌, ◌<◌, true, false, List, [], ◌∷◌, length, Some, refl, arith}
use Rattle.std.specs.Int.{int_wrap}
use denote.Hole.Carrier.{shown, out}
use Rattle.tal_tree.specs.declared.statement.What.{out-What}
use Rattle.tal_tree.specs.declared.statement.What.TheBlock.{shown-the_row-Statement-0}
use Rattle.schedule.specs.declared.event.Event.TheVariants.{Tick}
use Rattle.schedule.specs.declared.bus_name.BusName.TheVariants as bus
use Rattle.packet_words.specs.declared.packet.Packet.{Packet}
use Rattle.packet_wires.specs.Examples.{adder_at_boot}
use Rattle.packet_wires.specs.Play.{IsClear, sent_by}
use Rattle.packet_wires.specs.Sights.{end_of}
use Rattle.packet_wires.specs.Wires.{packets_over}
use Rattle.packet_rounds.specs.Examples.{four_ticks, has_arrived, three_ticks, with_buses}

sends-x : (x y : List Packet) → length (packets_over bus.X (sent_by (with_buses x y) (Tick 0))) ≡ 1
unfolding out-What shown-the_row-Statement-0 shown out int_wrap
sends-x x y = refl

sends-y : (x y : List Packet) → length (packets_over bus.Y (sent_by (with_buses x y) (Tick 0))) ≡ 1
unfolding out-What shown-the_row-Statement-0 shown out int_wrap
sends-y x y = refl

pub tick-clear : (x y : List Packet) → length x < 4096 → length y < 4096 → IsClear (with_buses x y) (Tick 0)
tick-clear x y low_x low_y bus.X = let one = sends-x x y in omega (arith, low_x, one)
tick-clear x y low_x low_y bus.Y = let one = sends-y x y in omega (arith, low_y, one)

pub tick-full-x : (x y : List Packet) → length x ≡ 4096 → IsClear (with_buses x y) (Tick 0) → ⊥
tick-full-x x y full clear = let one = sends-x x y in let most = clear bus.X in omega (arith, full, one, most)

pub tick-full-y : (x y : List Packet) → length y ≡ 4096 → IsClear (with_buses x y) (Tick 0) → ⊥
tick-full-y x y full clear = let one = sends-y x y in let most = clear bus.Y in omega (arith, full, one, most)

pub three-run : (end_of adder_at_boot three_ticks).world.stopped ≡ false ∷ false ∷ []
unfolding out-What shown-the_row-Statement-0 shown out int_wrap
three-run = refl

pub four-stop : (end_of adder_at_boot four_ticks).world.stopped ≡ false ∷ true ∷ []
unfolding out-What shown-the_row-Statement-0 shown out int_wrap
four-stop = refl

pub three-wait : has_arrived 3 ≡ Some false
unfolding out-What shown-the_row-Statement-0 shown out int_wrap
three-wait = refl

pub four-end : has_arrived 4 ≡ Some true
unfolding out-What shown-the_row-Statement-0 shown out int_wrap
four-end = refl

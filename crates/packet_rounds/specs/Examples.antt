-- A site of two processors, for the guards: its buses as they are given, and drain rounds after a piece was lost.
use Rattle.std.specs.Prelude.{ℕ, zero, suc, Bool, List, [], ◌∷◌, ◌++◌, length, replicate, Option}
use Rattle.std.specs.Option.{option_map}
use Rattle.schedule.specs.declared.bus_name.BusName.TheVariants as bus
use Rattle.schedule.specs.declared.event.Event.{Event}
use Rattle.schedule.specs.declared.event.Event.TheVariants.{Enter, Lose, Run, Tick}
use Rattle.packet_words.specs.declared.packet.Packet.{Packet}
use Rattle.link_control.specs.Ends.{is_empty}
use Rattle.packet_wires.specs.Nodes.{end_at}
use Rattle.packet_wires.specs.Play.{Packeted}
use Rattle.packet_wires.specs.Examples.{adder_at_boot, next_x, next_y}
use Rattle.packet_wires.specs.Sights.{end_of}

abbrev pub with_buses : List Packet → List Packet → Packeted
with_buses x y = record adder_at_boot { wires = record adder_at_boot.wires { x = x; y = y } }

-- processor 0 ticks so often, and nothing comes to it
abbrev pub three_ticks : List Event
three_ticks = Tick 0 ∷ Tick 0 ∷ Tick 0 ∷ []

abbrev pub four_ticks : List Event
four_ticks = Tick 0 ∷ three_ticks

-- the first request of the terminal is lost
abbrev pub request_lost : Packeted
request_lost = end_of adder_at_boot (Enter 0 ∷ Lose bus.X 0 ∷ [])

-- a drain round of the site: the terminal, the process, both buses, and the nodes
abbrev pub drain_round : Packeted → Packeted
drain_round s = end_of s (Enter 0 ∷ Run 0 ∷ (replicate (length s.wires.x) next_x
    ++ (replicate (length s.wires.y) next_y ++ (Tick 0 ∷ Tick 1 ∷ Tick 16 ∷ []))))

abbrev pub after_rounds : ℕ → Packeted
after_rounds zero = request_lost
after_rounds (suc more) = drain_round (after_rounds more)

-- the end of the terminals' node with processor 0 holds nothing any more
abbrev pub has_arrived : ℕ → Option Bool
has_arrived rounds = option_map is_empty (end_at (after_rounds rounds).wires.nodes 16 0)

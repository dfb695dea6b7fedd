-- The events of a line one after another, and values for the guards.
use Rattle.std.specs.Prelude.{ℕ, true, false, List, [], ◌∷◌, ◌++◌, Option, Some, None, replicate}
use Rattle.gd_words.specs.declared.limits.TheConstants.{TERMINAL_NODE}
use Rattle.schedule.specs.declared.bus_name.BusName.TheVariants as bus
use Rattle.schedule.specs.declared.event.Event.{Event}
use Rattle.schedule.specs.declared.event.Event.TheVariants as event
use Rattle.schedule.specs.declared.event.Counts.{Counts}
use Rattle.schedule.specs.declared.line.Line.{Line}
use Rattle.player.specs.declared.standing.Sizes.{Sizes}
use Rattle.player.specs.declared.standing.LinePlace.{LinePlace}
use Rattle.player.specs.declared.standing.Move.{Move}
use Rattle.player.specs.Lines.{begun, next_event, stands_after}

abbrev pub told : Option Move → List Event
told None = []
told (Some move) = move.event ∷ []

-- the events that a line gives as it is asked once with each of these counts
abbrev pub events_from : Sizes → LinePlace → List Counts → List Event
events_from sizes standing [] = []
events_from sizes standing (counts ∷ more) =
    told (next_event sizes standing counts) ++ events_from sizes (stands_after (next_event sizes standing counts)) more

abbrev pub events_of : Sizes → Line → List Counts → List Event
events_of sizes line counts = events_from sizes (begun line) counts

-- two processors, so many processes, and two terminals
abbrev pub processes : ℕ → Sizes
processes count = record { processors = 2; processes = count; terminals = 2 }

-- so many packets are on the buses, none of them alive, and something is left to do
abbrev pub packets : ℕ → ℕ → Counts
packets x y = record { x = x; y = y; alive = false; sender = 0; idle = false; writes = 0; replies = 0 }

abbrev pub idle : Counts
idle = record (packets 2 1) { idle = true }

-- so many writes and replies were shown
abbrev pub shown : ℕ → ℕ → Counts
shown writes replies = record (packets 2 1) { writes = writes; replies = replies }

-- the packet that comes next is an alive one of this node
abbrev pub alive_of : ℕ → Counts
alive_of node = record (packets 2 1) { alive = true; sender = node }

abbrev pub ticks : List Event
ticks = event.Tick 0 ∷ event.Tick 1 ∷ event.Tick TERMINAL_NODE ∷ []

-- a round of one process with two packets on bus X and one on bus Y
abbrev pub round : List Event
round = event.Enter 0 ∷ event.Enter 1 ∷ event.Run 0 ∷ event.Deliver bus.X 0 ∷ event.Deliver bus.X 0
    ∷ event.Deliver bus.Y 0 ∷ ticks

-- the same where every packet is lost
abbrev pub lost_round : List Event
lost_round =
    event.Enter 0 ∷ event.Enter 1 ∷ event.Run 0 ∷ event.Lose bus.X 0 ∷ event.Lose bus.X 0 ∷ event.Lose bus.Y 0 ∷ ticks

-- what a mixed round begins with that is drawn from 42, up to its first packet
abbrev pub mixed_from_42 : List Event
mixed_from_42 = event.Enter 0 ∷ event.Enter 1 ∷ replicate 3 (event.Run 0)

-- and what it ends with after its first packet
abbrev pub mixed_to_the_end : List Event
mixed_to_the_end = event.Repeat bus.X 0 ∷ event.Deliver bus.X 0 ∷ event.Deliver bus.Y 0 ∷ ticks

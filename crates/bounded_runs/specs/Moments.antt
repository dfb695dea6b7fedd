-- What a schedule plays over packets: its moments, the drain rounds between them, and what these deliver.
use Rattle.std.specs.Prelude.{◌≡◌, ◌≤◌, ◌<◌, ℕ, ◌+◌, true, false, List, [], ◌∷◌, ◌++◌, length, Option, Some}
use Rattle.tal_tree.specs.declared.site.Site.{Site}
use Rattle.schedule.specs.declared.bus_name.BusName.{BusName}
use Rattle.schedule.specs.declared.event.Counts.{Counts}
use Rattle.schedule.specs.declared.event.Event.{Event}
use Rattle.schedule.specs.declared.line.Line.{Line}
use Rattle.player.specs.declared.standing.Rule.{Rule}
use Rattle.player.specs.declared.stop.ProcessorStop.{ProcessorStop}
use Rattle.agendas.specs.Agendas.{Agenda, Plan}
use Rattle.machine_states.specs.States.{Played, Makes, Skips, Would}
use Rattle.packet_lengths.specs.node_copies.specs.ShownCounts.{replies_in, writes_in}
use Rattle.schedule.specs.declared.bus_name.BusName.TheVariants as bus
use Rattle.packet_words.specs.declared.packet.Packet.{Packet}
use Rattle.packet_wires.specs.Idle.{is_idle}
use Rattle.packet_wires.specs.Play.{IsClear, Packeted, count_on, play}
use Rattle.packet_wires.specs.Wires.{Wires}
use Rattle.round_laws.specs.Buses.{delivered_of}
use Rattle.round_laws.specs.Stretches.{BeginsRound, EndsRound, is_drain}
use Rattle.calm_runs.specs.packet_rounds.specs.Played.{buses_of}
use Rattle.schedule_loop.specs.Ends.{Plays, planned_in}
use Rattle.packet_lengths.specs.packet_runs.specs.Runs.{course_on, packet_rules, sizes_of}
use Rattle.bounded_runs.specs.Places.{is_in_drain_round}

-- Moments

-- a moment of what a schedule with a stop plays on a site: these events were played until then, the schedule stands
-- here, and this is the state. After so many events there is one moment, since a schedule is played in one way
pub record Moment (site : Site) (lines : List Line) (stop : Option ProcessorStop) : Type 0 where
  pub events : List Event
  pub agenda : Agenda
  pub state : Packeted
  pub played : Plays packet_rules (course_on site lines stop) events agenda state

-- at a moment this comes next
abbrev pub ComesNext : (site : Site) (lines : List Line) (stop : Option ProcessorStop) → Moment site lines stop → Plan
    → Type 0
ComesNext site lines stop moment plan =
    planned_in packet_rules (sizes_of site) (length moment.events) moment.state moment.agenda ≡ Some plan

-- Clear rounds

-- each event of a drain round, whole or broken off, is clear that comes between two times: both buses have room for all
-- that it sends
abbrev pub AreClear : (site : Site) (lines : List Line) (stop : Option ProcessorStop) → ℕ → ℕ → Type 0
AreClear site lines stop from to = (moment : Moment site lines stop) (plan : Plan)
    → from ≤ length moment.events → length moment.events < to → ComesNext site lines stop moment plan
    → is_in_drain_round plan.agenda.standing ≡ true → IsClear moment.state plan.event

-- Drain rounds in a row

-- what is counted in a state. No packet is looked at here, as only `mute` and mixed rounds do that
abbrev pub counts_in : Packeted → Counts
counts_in s = record {
  x = count_on s bus.X;
  y = count_on s bus.Y;
  alive = false;
  sender = 0;
  idle = is_idle s;
  writes = writes_in s.world.shown;
  replies = replies_in s.world.shown;
}

-- so many whole drain rounds of one line follow each other, from one moment to another: at the first, a round of the
-- line comes next; and at the last, a round of it has just ended, and so many fewer are left
pub record AreDrainRounds (site : Site) (lines : List Line) (stop : Option ProcessorStop) (count : ℕ)
    (first last : Moment site lines stop) : Type 0 where
  pub rule : Rule
  pub drains : is_drain rule ≡ true
  pub left : ℕ
  pub rest : List Line
  pub begins : BeginsRound (sizes_of site) (counts_in first.state) first.agenda rule (left + count) rest
  pub ends : EndsRound last.agenda rule left rest
  pub later : length first.events ≤ length last.events

-- What is delivered

-- the state after an event, also where it is skipped
abbrev pub state_after : Packeted → Played Wires → Packeted
state_after s (Makes next) = next
state_after s Skips = s
state_after s (Would harm) = s

-- the packets that events deliver of a bus, in their order
abbrev pub delivered_by : BusName → Packeted → List Event → List Packet
delivered_by bus s [] = []
delivered_by bus s (event ∷ rest) =
    delivered_of bus event (buses_of s bus) ++ delivered_by bus (state_after s (play s event)) rest

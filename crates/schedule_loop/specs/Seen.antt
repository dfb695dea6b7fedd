-- What the parts of this crate's code show.
use Rattle.std.specs.Prelude.{◌≡◌, ℕ, Bool, true, false, List, [], ◌∷◌, Option, Some, None}
use Rattle.std.specs.Option.{option_map}
use Rattle.schedule.specs.declared.bus_name.BusName.{BusName}
use Rattle.schedule.specs.declared.event.Event.{Event}
use Rattle.schedule.specs.declared.line.Line.{Line}
use Rattle.player.specs.Lines.{begun, bus_to_drain, with_packets_left}
use Rattle.player.specs.declared.player.Player.{Player}
use Rattle.player.specs.declared.standing.Sizes.{Sizes}
use Rattle.agendas.specs.Agendas.{Agenda, Plan}

-- where a schedule stands that is played on a site of these sizes
pub record Scheduled : Type 0 where
  pub sizes : Sizes
  pub agenda : Agenda

-- the player that stands there
abbrev pub player_at : Scheduled → Player
player_at all = record { sizes = all.sizes; standing = all.agenda.standing }

abbrev pub event_in : Option Plan → Option Event
event_in plan = option_map (λ one. one.event) plan

-- of these lines the first one was begun, if there is one
abbrev pub IsBegun : List Line → Scheduled → Bool → Scheduled → Type 0
IsBegun [] before began after = (began ≡ false) × (after ≡ before)
IsBegun (line ∷ rest) before began after =
    (began ≡ true) × (after ≡ record before { agenda = record before.agenda { standing = begun line; lines = rest } })

-- with no event held back, the bus whose packets a drain delivers next is this one, with so many of them left
abbrev pub IsDraining : Agenda → Option (BusName × ℕ) → Type 0
IsDraining agenda None = Unit {0}
IsDraining agenda (Some packets) = (agenda.held_back ≡ None) × (bus_to_drain agenda.standing ≡ Some packets)

-- the schedule with so many packets left that its line delivers
abbrev pub with_left : ℕ → Scheduled → Scheduled
with_left packets all =
    record all { agenda = record all.agenda { standing = with_packets_left packets all.agenda.standing } }

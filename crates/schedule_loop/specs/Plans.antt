-- Which event of a schedule comes next where what is counted depends on where its line stands, as the kind of the
-- packet that an event concerns does; and runs by it. The lines are our own.
use Rattle.std.specs.Prelude.{◌≡◌, ℕ, List, [], ◌∷◌, ◌++◌, length, Option, Some, None}
use Rattle.std.specs.Option.{option_map}
use Rattle.schedule.specs.declared.event.Counts.{Counts}
use Rattle.schedule.specs.declared.event.Event.{Event}
use Rattle.schedule.specs.declared.line.Line.{Line}
use Rattle.player.specs.declared.player.Player.{Player}
use Rattle.player.specs.declared.standing.Sizes.{Sizes}
use Rattle.player.specs.declared.standing.LinePlace.{LinePlace}
use Rattle.player.specs.declared.standing.Move.{Move}
use Rattle.player.specs.declared.stop.ProcessorStop.{ProcessorStop}
use Rattle.player.specs.Lines.{begun, next_event}
use Rattle.agendas.specs.Agendas.{Agenda, Plan, agenda_of, coming, stopped_by}

-- what is counted before an event, by where a player stands
abbrev pub Sight : Type 0
Sight = Player → Counts

-- the next event of a line at which a player stands here
abbrev pub next_seen : Sizes → Sight → LinePlace → Option Move
next_seen sizes sight standing = next_event sizes standing (sight (record { sizes = sizes; standing = standing }))

-- the next event of a line and the lines after it, where the line gives this: its own, or else that of the first line
-- after it that gives one
abbrev pub planned_seen : Sizes → Sight → Option ProcessorStop → List Line → Option Move → Option Plan
planned_seen sizes sight stop lines (Some move) =
    Some (record {
      event = move.event;
      agenda =
          record { standing = move.standing; lines = lines; stop = stop; held_back = None };
    })
planned_seen sizes sight stop [] None = None
planned_seen sizes sight stop (line ∷ lines) None =
    planned_seen sizes sight stop lines (next_seen sizes sight (begun line))

abbrev pub upcoming_seen_after : Sizes → ℕ → Sight → Agenda → Option Event → Option Plan
upcoming_seen_after sizes before sight agenda (Some event) =
    Some (record { event = event; agenda = record agenda { held_back = None } })
upcoming_seen_after sizes before sight agenda None =
    option_map (stopped_by (coming agenda.stop before))
    (planned_seen sizes sight agenda.stop agenda.lines (next_seen sizes sight agenda.standing))

-- the next event of a schedule, that so many events precede; none where the schedule is over
abbrev pub upcoming_seen : Sizes → ℕ → Sight → Agenda → Option Plan
upcoming_seen sizes before sight agenda = upcoming_seen_after sizes before sight agenda agenda.held_back

-- these events of a schedule with a stop came from this state one after the other, each as what was counted gave it,
-- and lead to a state and to where the schedule stands
pub data PlaysSeen {S : Type 0} (sizes : Sizes) (sight : S → Sight) (goes : S → Event → S → Type 0) (start : S)
    (lines : List Line) (stop : Option ProcessorStop)
    : List Event → Agenda → S → Type 0 where
  seen_none : PlaysSeen sizes sight goes start lines stop [] (agenda_of lines stop) start
  seen_on : {events : List Event} {agenda : Agenda} {s next : S} → (plan : Plan)
      → PlaysSeen sizes sight goes start lines stop events agenda s
      → upcoming_seen sizes (length events) (sight s) agenda ≡ Some plan → goes s plan.event next
      → PlaysSeen sizes sight goes start lines stop (events ++ plan.event ∷ []) plan.agenda next

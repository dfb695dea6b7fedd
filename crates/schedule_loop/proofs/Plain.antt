-- Where what is counted doesn't depend on where a line stands, a schedule is played as agendas say it.
use Rattle.std.proofs.Common.{◌≡◌, ◌∙◌, ℕ, List, [], ◌∷◌, length, Option, Some, None, refl, ap, sym}
use Rattle.std.specs.Option.{option_map}
use Rattle.schedule.specs.declared.event.Counts.{Counts}
use Rattle.schedule.specs.declared.event.Event.{Event}
use Rattle.schedule.specs.declared.line.Line.{Line}
use Rattle.player.specs.Lines.{begun, next_event}
use Rattle.player.specs.declared.standing.Sizes.{Sizes}
use Rattle.player.specs.declared.standing.Move.{Move}
use Rattle.player.specs.declared.stop.ProcessorStop.{ProcessorStop}
use Rattle.agendas.specs.Agendas.{Agenda, PlaysOn, coming, planned_by, plays_none, plays_on, stopped_by, next_plan}
use Rattle.agendas.specs.Agendas.{upcoming_after}
use Rattle.schedule_loop.specs.Plans.{PlaysSeen, planned_seen, seen_none, seen_on, upcoming_seen, upcoming_seen_after}

same-plan : (sizes : Sizes) (counts : Counts) (stop : Option ProcessorStop) (lines : List Line) (move : Option Move)
    → planned_by sizes counts stop lines move ≡ planned_seen sizes (λ player. counts) stop lines move
same-plan sizes counts stop lines (Some move) = refl
same-plan sizes counts stop [] None = refl
same-plan sizes counts stop (line ∷ lines) None =
    same-plan sizes counts stop lines (next_event sizes (begun line) counts)

same-after : (sizes : Sizes) (before : ℕ) (counts : Counts) (agenda : Agenda) (held : Option Event)
    → upcoming_after sizes before counts agenda held
    ≡ upcoming_seen_after sizes before (λ player. counts) agenda held
same-after sizes before counts agenda (Some event) = refl
same-after sizes before counts agenda None =
    ap (option_map (stopped_by (coming agenda.stop before)))
    (same-plan sizes counts agenda.stop agenda.lines (next_event sizes agenda.standing counts))

-- the same event comes next
pub same-upcoming : (sizes : Sizes) (before : ℕ) (counts : Counts) (agenda : Agenda)
    → next_plan sizes before counts agenda ≡ upcoming_seen sizes before (λ player. counts) agenda
same-upcoming sizes before counts agenda = same-after sizes before counts agenda agenda.held_back

pub plays-on : {S : Type 0} {sizes : Sizes} {counts : S → Counts} {goes : S → Event → S → Type 0} {start : S}
    {lines : List Line} {stop : Option ProcessorStop} {events : List Event} {agenda : Agenda} {s : S}
    → PlaysSeen sizes (λ one player. counts one) goes start lines stop events agenda s
    → PlaysOn sizes counts goes start lines stop events agenda s
plays-on seen_none = plays_none
plays-on {sizes = sizes} {counts = counts} (seen_on {events = events} {agenda = agenda} {s = s} plan plays comes on) =
    plays_on plan (plays-on plays) (same-upcoming sizes (length events) (counts s) agenda ∙ comes) on

pub plays-seen : {S : Type 0} {sizes : Sizes} {counts : S → Counts} {goes : S → Event → S → Type 0} {start : S}
    {lines : List Line} {stop : Option ProcessorStop} {events : List Event} {agenda : Agenda} {s : S}
    → PlaysOn sizes counts goes start lines stop events agenda s
    → PlaysSeen sizes (λ one player. counts one) goes start lines stop events agenda s
plays-seen plays_none = seen_none
plays-seen {sizes = sizes} {counts = counts} (plays_on {events = events} {agenda = agenda} {s = s} plan plays comes on)
    = seen_on plan (plays-seen plays) (sym (same-upcoming sizes (length events) (counts s) agenda) ∙ comes) on

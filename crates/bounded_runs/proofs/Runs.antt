-- What a run has played, by how it ended.
use Rattle.std.proofs.Common.{◌≡◌, ◌≤◌, ℕ, List, length, Option, refl, subst}
use Rattle.std.specs.Option.{is_some}
use Rattle.tal_tree.specs.declared.site.Site.{Site}
use Rattle.schedule.specs.declared.event.Event.{Event}
use Rattle.schedule.specs.declared.line.Line.{Line}
use Rattle.player.specs.declared.stop.ProcessorStop.{ProcessorStop}
use Rattle.agendas.specs.Agendas.{Agenda}
use Rattle.calm_schedules.specs.Calm.{IsCalm}
use Rattle.packet_wires.specs.Play.{Packeted}
use Rattle.schedule_loop.specs.Ends.{EndsBy, Plays, RunsToHarmBy, ending_by}
use Rattle.schedule_loop.specs.declared.ran.Ending.{Ending}
use Rattle.schedule_loop.specs.declared.ran.Ending.TheVariants.{Cut, Idle, Lost, Second}
use Rattle.packet_lengths.specs.packet_runs.specs.Ends.{IsRunOf}
use Rattle.packet_lengths.specs.packet_runs.specs.Runs.{course_on, packet_rules}
use Rattle.packet_lengths.specs.packet_runs.specs.declared.ran.Ran.{Ran}
use Rattle.bounded_runs.specs.Moments.{AreClear, Moment}
use Rattle.bounded_runs.proofs.Calm.{no-harm}
use Rattle.machine_states.specs.States.{Harm, SecondStop, DiscLoss}

-- how a schedule was played to these events and to this state
record IsPlayedTo (site : Site) (lines : List Line) (stop : Option ProcessorStop) (events : List Event) (s : Packeted)
    : Type 0 where
  agenda : Agenda
  played : Plays packet_rules (course_on site lines stop) events agenda s

ended : (site : Site) (lines : List Line) (stop : Option ProcessorStop) (events : List Event) (s left : Packeted)
    (asked : ℕ) (ending : Ending) → EndsBy packet_rules (course_on site lines stop) events s left asked ending
    → IsPlayedTo site lines stop events s
ended site lines stop events s left asked Idle ends = record { agenda = ends.0.agenda; played = ends.0.played }
ended site lines stop events s left asked Cut ends = record { agenda = ends.0.agenda; played = ends.0.played }
ended site lines stop events s left asked (Second p) ends =
    record { agenda = ends.0.agenda; played = ends.0.played }
ended site lines stop events s left asked (Lost p) ends = record { agenda = ends.0.agenda; played = ends.0.played }

pub run-moment : (site : Site) (lines : List Line) (stop : Option ProcessorStop) (ran : Ran)
    → (run : IsRunOf site lines stop ran)
    → (moment : Moment site lines stop) × (moment.events ≡ run.events) × (moment.state ≡ run.state)
run-moment site lines stop ran run =
    let to = ended site lines stop run.events run.state ran.machine.state ran.asked ran.ending run.ends in
    (record { events = run.events; agenda = to.agenda; state = run.state; played = to.played }, refl, refl)

pub never-harmed : (site : Site) → site.processors ≤ 16 → (lines : List Line) (stop : Option ProcessorStop)
    → IsCalm lines (is_some stop) → (ran : Ran) → (run : IsRunOf site lines stop ran)
    → AreClear site lines stop 0 (length run.events) → (harm : Harm) → ran.ending ≡ ending_by harm → ⊥
never-harmed site few lines stop calm ran run clear harm is =
    no-harm site lines stop calm.0 few calm run.events run.state clear harm
    (by harm (subst (EndsBy packet_rules (course_on site lines stop) run.events run.state ran.machine.state ran.asked)
    is run.ends))
  where
    by : (harm : Harm) → EndsBy packet_rules (course_on site lines stop) run.events run.state ran.machine.state
        ran.asked (ending_by harm) → RunsToHarmBy packet_rules (course_on site lines stop) run.events run.state harm
    by (SecondStop processor) ends = ends.0
    by (DiscLoss process) ends = ends.0

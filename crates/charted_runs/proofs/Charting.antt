-- A run that is being drawn.
use Rattle.std.proofs.Common.{◌≡◌, ◌≤◌, ◌<◌, ◌∙◌, ℕ, ◌+◌, false, List, [], ◌∷◌, ◌++◌, arith, length, Option}
use Rattle.std.proofs.Common.{Some, None, Ok, Err, refl, ap, ap₂, sym, subst, append-nil}
use Rattle.std.specs.Option.{IfSome}
use Rattle.std.specs.Prelude.{IfErr, IfOk, Result}
use Rattle.agendas.specs.Agendas.{Agenda, Plan, agenda_of}
use Rattle.chart_drawing.specs.Chart.{chart_at_boot}
use Rattle.chart_drawing.specs.declared.chart.Chart.{Chart}
use Rattle.chart_drawing.specs.declared.layout.Layout.{Layout}
use Rattle.charted_runs.specs.Charts.{Charts, IsTooLong, IsWantOfMemory, chart_from, chart_of, charted_by}
use Rattle.charted_runs.specs.declared.charted.ChartFault.{ChartFault}
use Rattle.charted_runs.specs.declared.charted.ChartFault.TheVariants as fault
use Rattle.charted_runs.specs.declared.charted.Charted.{Charted}
use Rattle.traced_runs.specs.packet_runs.specs.Runs.{course_on, packet_rules, sizes_of}
use Rattle.player.specs.declared.standing.Sizes.{Sizes}
use Rattle.player.specs.declared.stop.ProcessorStop.{ProcessorStop}
use Rattle.schedule.specs.declared.event.Event.{Event}
use Rattle.schedule.specs.declared.line.Line.{Line}
use Rattle.schedule_loop.proofs.Playing as loop
use Rattle.schedule_loop.proofs.Playing.{Coming, few_played, runs_out, runs_to_harm}
use Rattle.schedule_loop.specs.Ends.{CanBePlayed, IsEndBy, IsTriedBy, Plays, planned_in}
use Rattle.schedule_loop.specs.Plans.{seen_none, seen_on}
use Rattle.schedule_loop.specs.Playing.{IsPlaying}
use Rattle.schedule_loop.specs.Seen.{Scheduled, event_in}
use Rattle.traced_runs.specs.site_machine.specs.Needs.{IsReady}
use Rattle.traced_runs.specs.site_machine.specs.packet_wires.specs.Idle.{is_idle}
use Rattle.traced_runs.specs.site_machine.specs.packet_wires.specs.Play.{Packeted, packeted_at_boot, play}
use Rattle.traced_runs.specs.site_machine.specs.packet_wires.specs.Sights.{end_of, state_after}
use Rattle.tal_tree.specs.declared.site.Site.{Site}
use Rattle.trace_lines.specs.declared.places.Places.{Places}
use Rattle.traced_runs.proofs.Ends.{counted_at_end}
use Rattle.traced_runs.proofs.Tracing.{Found, first_number, later_number, leads_there, longer, next_number, planned}
use Rattle.traced_runs.specs.Traces.{AreAskedFor}

-- One event more

chart_more : (site : Site) (places : Places) (to n m : ℕ) (s : Packeted) (events : List Event) (event : Event)
    (chart : Chart) → n + length events ≡ m
    → chart_from site places to n s (events ++ event ∷ []) chart
    ≡ charted_by site places to m (end_of s events) event (chart_from site places to n s events chart)
chart_more site places to n m s [] event chart is =
    ap (λ k. charted_by site places to k s event chart) (first_number n m is)
chart_more site places to n m s (one ∷ events) event chart is =
    chart_more site places to (n + 1) m (state_after (play s one) s) events event
    (charted_by site places to n s one chart) (later_number n (length events) m is)

-- a schedule with a stop on a site, and which of its events are drawn where
pub record Drawing : Type 0 where
  pub site : Site
  pub places : Places
  pub lines : List Line
  pub stop : Option ProcessorStop
  pub layout : Layout
  pub to : ℕ

abbrev pub chart_by : Drawing → List Event → Chart
chart_by t events = chart_of t.site t.places t.layout t.to events

-- there is room for so many events
abbrev pub HasRoom : Layout → ℕ → ℕ → Type 0
HasRoom layout to n = layout.from + 400 ≤ to → n < layout.from + 400

-- so many events of a schedule were played, and led to this state and to where the schedule stands; and this is their
-- chart, which has room for them
pub record IsCharting (t : Drawing) (schedule : Scheduled) (s : Packeted) (played : ℕ) (chart : Chart) : Type 0 where
  pub events : List Event
  pub counted : length events ≡ played
  pub plays : Plays packet_rules (course_on t.site t.lines t.stop) events schedule.agenda s
  pub sizes : schedule.sizes ≡ sizes_of t.site
  pub is : chart ≡ chart_by t events
  pub room : HasRoom t.layout t.to played

-- the next event has room, if what was played had, and if it has where it is drawn
pub next_room : (layout : Layout) (to n : ℕ) → HasRoom layout to n → (n + 1 ≤ to → n + 1 < layout.from + 400)
    → HasRoom layout to (n + 1)
next_room layout to n room drawn far = drawn (not_behind layout.from (room far) far)
  where
    not_behind : (from : ℕ) → n < from + 400 → from + 400 ≤ to → n + 1 ≤ to
    not_behind from less far = omega (arith, less, far)

not_long : (layout : Layout) (to n : ℕ) → HasRoom layout to n → IsTooLong layout to n → ⊥
not_long layout to n room (many, far) = beyond layout.from (room far) many
  where
    beyond : (from : ℕ) → n < from + 400 → from + 400 ≤ n → ⊥
    beyond from less many = omega (arith, less, many)

first_room : (layout : Layout) (to : ℕ) → HasRoom layout to 0
first_room layout to far = omega arith

-- at the beginning nothing was played
pub begins : (t : Drawing) (schedule : Scheduled) (s : Packeted) (sizes : Sizes) (chart : Chart)
    → s ≡ packeted_at_boot t.site
    → sizes ≡ sizes_of t.site → schedule ≡ record { sizes = sizes; agenda = agenda_of t.lines t.stop }
    → chart ≡ chart_at_boot t.layout t.site → IsCharting t schedule s 0 chart
begins t schedule s sizes chart booted counted is begun = record {
  events = [];
  counted = refl;
  plays =
      subst (λ (one : Packeted). Plays packet_rules (course_on t.site t.lines t.stop) [] schedule.agenda one)
      (sym booted)
      (subst (λ (agenda : Agenda). Plays packet_rules (course_on t.site t.lines t.stop) [] agenda
      (packeted_at_boot t.site))
      (sym (ap (λ (all : Scheduled). all.agenda) is)) seen_none);
  sizes = ap (λ (all : Scheduled). all.sizes) is ∙ counted;
  is = begun;
  room = first_room t.layout t.to;
}

pub playing_of : (t : Drawing) (schedule : Scheduled) (s : Packeted) (n : ℕ) (chart : Chart)
    → IsCharting t schedule s n chart → IsPlaying packet_rules (course_on t.site t.lines t.stop) schedule s n
playing_of t schedule s n chart charting =
    record { events = charting.events; counted = charting.counted; plays = charting.plays; sizes = charting.sizes }

-- no more events were played than the schedule asks for
pub few_drawn : (t : Drawing) (schedule : Scheduled) (s : Packeted) (n : ℕ) (chart : Chart)
    → CanBePlayed packet_rules IsReady (course_on t.site t.lines t.stop)
    → IsCharting t schedule s n chart → n < 4294967294
few_drawn t schedule s n chart can charting =
    few_played packet_rules IsReady (course_on t.site t.lines t.stop) schedule s n can
    (playing_of t schedule s n chart charting)

-- and the state is ready
pub ready_drawn : (t : Drawing) (schedule : Scheduled) (s : Packeted) (n : ℕ) (chart : Chart)
    → CanBePlayed packet_rules IsReady (course_on t.site t.lines t.stop)
    → IsCharting t schedule s n chart → IsReady s
ready_drawn t schedule s n chart can charting =
    loop.is_ready packet_rules IsReady (course_on t.site t.lines t.stop) schedule s n can
    (playing_of t schedule s n chart charting)

-- the chart of what was played, and of the event that comes next
pub chart_next : (t : Drawing) (schedule : Scheduled) (s : Packeted) (n : ℕ) (chart : Chart)
    (charting : IsCharting t schedule s n chart) (one event : Event) → one ≡ event
    → chart_by t (charting.events ++ one ∷ []) ≡ charted_by t.site t.places t.to (n + 1) s event chart
chart_next t schedule s n chart charting one event is =
    chart_more t.site t.places t.to 1 (n + 1) (packeted_at_boot t.site) charting.events one
    (chart_at_boot t.layout t.site) (next_number (length charting.events) n charting.counted)
    ∙ ap₂ (λ (at : Packeted) (next : Event). charted_by t.site t.places t.to (n + 1) at next
    (chart_by t charting.events))
    (leads_there charting.plays) is
    ∙ ap (λ (before : Chart). charted_by t.site t.places t.to (n + 1) s event before) (sym charting.is)

-- what comes next, by the events that were played
pub comes_after : (t : Drawing) (schedule : Scheduled) (s : Packeted) (n : ℕ) (chart : Chart)
    (charting : IsCharting t schedule s n chart) (plan : Option Plan) → Coming packet_rules schedule s n ≡ plan
    → planned_in packet_rules (sizes_of t.site) (length charting.events) s schedule.agenda ≡ plan
comes_after t schedule s n chart charting plan is =
    subst (λ (sizes : Sizes). planned_in packet_rules sizes (length charting.events) s schedule.agenda ≡ plan)
    charting.sizes
    (subst (λ m. planned_in packet_rules schedule.sizes m s schedule.agenda ≡ plan) (sym charting.counted) is)

-- an event was played and drawn
pub goes_on : (t : Drawing) (before after : Scheduled) (s next : Packeted) (n : ℕ) (chart drawn : Chart)
    (event : Event) → IsCharting t before s n chart → event_in (Coming packet_rules before s n) ≡ Some event
    → IfSome (Coming packet_rules before s n) (λ plan. after ≡ record before { agenda = plan.agenda })
    → IsTriedBy packet_rules s event next None
    → drawn ≡ charted_by t.site t.places t.to (n + 1) s event chart
    → (n + 1 ≤ t.to → n + 1 < t.layout.from + 400) → IsCharting t after next (n + 1) drawn
goes_on t before after s next n chart drawn event charting e stands tried is room =
    let found : Found (Coming packet_rules before s n) event before after =
    planned (Coming packet_rules before s n) event before after e stands in
    let plays : Plays packet_rules (course_on t.site t.lines t.stop) (charting.events ++ found.0.event ∷ [])
    found.0.agenda next =
    seen_on found.0 charting.plays (comes_after t before s n chart charting (Some found.0) found.1)
    (subst (λ one. IsTriedBy packet_rules s one next None) (sym found.2) tried) in
    record {
      events = charting.events ++ found.0.event ∷ [];
      counted = longer charting.events found.0.event ∙ ap (λ m. m + 1) charting.counted;
      plays = subst (λ agenda. Plays packet_rules (course_on t.site t.lines t.stop)
          (charting.events ++ found.0.event ∷ []) agenda next)
          (sym (ap (λ (all : Scheduled). all.agenda) found.3)) plays;
      sizes = ap (λ (all : Scheduled). all.sizes) found.3 ∙ charting.sizes;
      is = is ∙ sym (chart_next t before s n chart charting found.0.event event found.2);
      room = next_room t.layout t.to n charting.room room;
    }

-- Ends

abbrev pub ChartsBy : Drawing → Result Charted ChartFault → Type 0
ChartsBy t result = Charts t.site t.places t.lines t.stop t.layout t.to result

asked_now : (t : Drawing) (schedule : Scheduled) (s : Packeted) (n : ℕ) (chart : Chart)
    (charting : IsCharting t schedule s n chart) → AreAskedFor (course_on t.site t.lines t.stop) charting.events
asked_now t schedule s n chart charting = record {
  events = charting.events;
  agenda = schedule.agenda;
  state = s;
  played = charting.plays;
  last = None;
  comes = tt;
  are = sym (append-nil charting.events);
}

asked_next : (t : Drawing) (schedule : Scheduled) (s : Packeted) (n : ℕ) (chart : Chart)
    (charting : IsCharting t schedule s n chart) (plan : Plan) → Coming packet_rules schedule s n ≡ Some plan
    → AreAskedFor (course_on t.site t.lines t.stop) (charting.events ++ plan.event ∷ [])
asked_next t schedule s n chart charting plan is = record {
  events = charting.events;
  agenda = schedule.agenda;
  state = s;
  played = charting.plays;
  last = Some plan;
  comes = comes_after t schedule s n chart charting (Some plan) is;
  are = refl;
}

-- there is no room for the next event
pub ends_too_long : (t : Drawing) (before after : Scheduled) (s : Packeted) (n : ℕ) (chart : Chart) (event : Event)
    → IsCharting t before s n chart → event_in (Coming packet_rules before s n) ≡ Some event
    → IfSome (Coming packet_rules before s n) (λ plan. after ≡ record before { agenda = plan.agenda })
    → IsTooLong t.layout t.to (n + 1) → ChartsBy t (Err fault.TooLong)
ends_too_long t before after s n chart event charting e stands long =
    let found : Found (Coming packet_rules before s n) event before after =
    planned (Coming packet_rules before s n) event before after e stands in (
      charting.events ++ found.0.event ∷ [],
      asked_next t before s n chart charting found.0 found.1,
      subst (λ m. IsTooLong t.layout t.to m)
          (sym (longer charting.events found.0.event ∙ ap (λ m. m + 1) charting.counted)) long,
    )

-- the schedule is over
ends_over : (t : Drawing) (schedule : Scheduled) (s : Packeted) (n : ℕ) (chart : Chart) (charted : Charted)
    → IsCharting t schedule s n chart
    → event_in (Coming packet_rules schedule s n) ≡ None → n < 4294967295 → charted.ran.machine.is_broken ≡ false
    → IsEndBy packet_rules s n (is_idle s) charted.ran.machine.state charted.ran.asked charted.ran.ending
    → charted.chart ≡ chart → ChartsBy t (Ok charted)
ends_over t schedule s n chart charted charting e few whole end same = (
  charting.events,
  asked_now t schedule s n chart charting,
  (
    runs_out packet_rules (course_on t.site t.lines t.stop) schedule s charted.ran.machine.state n charted.ran.asked
        charted.ran.ending charted.ran.machine.is_broken (playing_of t schedule s n chart charting) e few whole end,
    charting.counted
        ∙ sym (counted_at_end s charted.ran.machine.state n charted.ran.asked (is_idle s) charted.ran.ending end),
  ),
  same ∙ charting.is,
  λ long. not_long t.layout t.to n charting.room (subst (λ m. IsTooLong t.layout t.to m) charting.counted long),
)

-- and memory for closing it may run out
pub run_ends : (t : Drawing) (schedule : Scheduled) (s : Packeted) (n : ℕ) (chart : Chart)
    (result : Result Charted ChartFault) → IsCharting t schedule s n chart
    → event_in (Coming packet_rules schedule s n) ≡ None → n < 4294967295
    → IfOk result (λ charted. charted.ran.machine.is_broken ≡ false)
    → IfOk result (λ charted. IsEndBy packet_rules s n (is_idle s) charted.ran.machine.state charted.ran.asked
    charted.ran.ending)
    → IfOk result (λ charted. charted.chart ≡ chart) → IfErr result IsWantOfMemory → ChartsBy t result
run_ends t schedule s n chart (Ok charted) charting e few whole end same want =
    ends_over t schedule s n chart charted charting e few whole end same
run_ends t schedule s n chart (Err (fault.NoMemory memory)) charting e few whole end same want = tt
run_ends t schedule s n chart (Err fault.TooLong) charting e few whole end same want = absurd want

-- the next event would do harm
pub ends_at_harm : (t : Drawing) (before after : Scheduled) (s : Packeted) (n : ℕ) (chart : Chart) (event : Event)
    (charted : Charted) → IsCharting t before s n chart
    → event_in (Coming packet_rules before s n) ≡ Some event
    → IfSome (Coming packet_rules before s n) (λ plan. after ≡ record before { agenda = plan.agenda })
    → IsTriedBy packet_rules s event charted.ran.machine.state (Some charted.ran.ending)
    → charted.ran.machine.is_broken ≡ false → n < 4294967295 → charted.ran.asked ≡ n + 1
    → charted.chart ≡ charted_by t.site t.places t.to (n + 1) s event chart
    → (n + 1 ≤ t.to → n + 1 < t.layout.from + 400) → ChartsBy t (Ok charted)
ends_at_harm t before after s n chart event charted charting e stands tried whole few asked is room =
    let found : Found (Coming packet_rules before s n) event before after =
    planned (Coming packet_rules before s n) event before after e stands in (
      charting.events ++ found.0.event ∷ [],
      asked_next t before s n chart charting found.0 found.1,
      (
        runs_to_harm packet_rules (course_on t.site t.lines t.stop) before after s charted.ran.machine.state n
            charted.ran.asked event charted.ran.ending charted.ran.machine.is_broken
            (playing_of t before s n chart charting) e stands tried whole few asked,
        longer charting.events found.0.event ∙ ap (λ m. m + 1) charting.counted ∙ sym asked,
      ),
      is ∙ sym (chart_next t before s n chart charting found.0.event event found.2),
      λ long. not_long t.layout t.to (n + 1) (next_room t.layout t.to n charting.room room)
          (subst (λ m. IsTooLong t.layout t.to m)
          (longer charting.events found.0.event ∙ ap (λ m. m + 1) charting.counted) long),
    )

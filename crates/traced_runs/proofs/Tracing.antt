-- A run that is being told.
use Rattle.std.proofs.Common.{◌≡◌, ◌<◌, ◌∙◌, ℕ, suc, ◌+◌, List, [], ◌∷◌, ◌++◌, length, Option, Some, None, Ok}
use Rattle.std.proofs.Common.{refl, ap, ap₂, sym, subst, inl, inr, arith, append-nil, append_assoc}
use Rattle.std.proofs.lemmas.List.{length-append}
use Rattle.std.specs.Option.{IfSome}
use Rattle.agendas.specs.Agendas.{Agenda, Plan, agenda_of}
use Rattle.gd_io.specs.Joining.{puts_both, puts_nothing}
use Rattle.gd_io.specs.Puts.{Puts}
use Rattle.packet_runs.specs.Runs.{course_on, packet_rules, sizes_of}
use Rattle.player.specs.declared.standing.Sizes.{Sizes}
use Rattle.player.specs.declared.stop.ProcessorStop.{ProcessorStop}
use Rattle.schedule.specs.declared.event.Event.{Event}
use Rattle.schedule.specs.declared.line.Line.{Line}
use Rattle.schedule_loop.proofs.Playing as loop
use Rattle.schedule_loop.proofs.Playing.{Coming, few_played}
use Rattle.schedule_loop.specs.Ends.{CanBePlayed, IsTriedBy, Plays, planned_in}
use Rattle.schedule_loop.specs.Plans.{seen_none, seen_on}
use Rattle.schedule_loop.specs.Playing.{IsPlaying}
use Rattle.schedule_loop.specs.Rules.{IsPlayBy}
use Rattle.schedule_loop.specs.Seen.{Scheduled, event_in}
use Rattle.packet_runs.specs.site_machine.specs.Needs.{IsReady}
use Rattle.packet_runs.specs.site_machine.specs.packet_wires.specs.Play.{Packeted, packeted_at_boot, play}
use Rattle.packet_runs.specs.site_machine.specs.packet_wires.specs.Sights.{end_of, state_after}
use Rattle.tal_tree.specs.declared.site.Site.{Site}
use Rattle.trace_lines.specs.declared.places.Places.{Places}
use Rattle.traced_runs.specs.Trace.{line_told, trace_from, trace_of}
use Rattle.traced_runs.specs.declared.manner.Manner.{Manner}

-- One event more

end_more : (s : Packeted) (events : List Event) (event : Event)
    → end_of s (events ++ event ∷ []) ≡ state_after (play (end_of s events) event) (end_of s events)
end_more s [] event = refl
end_more s (one ∷ events) event = end_more (state_after (play s one) s) events event

made_is : (s next : Packeted) (event : Event) → IsPlayBy packet_rules s event next
    → state_after (play s event) s ≡ next
made_is s next event (inl makes) = ap (λ made. state_after made s) makes
made_is s next event (inr skips) = ap (λ made. state_after made s) skips.0 ∙ sym skips.1

-- events of a schedule lead to the state that playing each of them makes
pub leads_there : {site : Site} {lines : List Line} {stop : Option ProcessorStop} {events : List Event}
    {agenda : Agenda} {s : Packeted}
    → Plays packet_rules (course_on site lines stop) events agenda s → end_of (packeted_at_boot site) events ≡ s
leads_there seen_none = refl
leads_there {site} (seen_on {events = before} {agenda = stood} {s = mid} {next = after} plan plays comes goes) =
    end_more (packeted_at_boot site) before plan.event
    ∙ ap (λ (s : Packeted). state_after (play s plan.event) s) (leads_there plays)
    ∙ made_is mid after plan.event goes

pub first_number : (n m : ℕ) → n + 0 ≡ m → n ≡ m
first_number n m is = omega (arith, is)

pub later_number : (n k m : ℕ) → n + suc k ≡ m → (n + 1) + k ≡ m
later_number n k m is = omega (arith, is)

trace_more : (site : Site) (places : Places) (manner : Manner) (n m : ℕ) (s : Packeted) (events : List Event)
    (event : Event) → n + length events ≡ m
    → trace_from site places manner n s (events ++ event ∷ [])
    ≡ trace_from site places manner n s events ++ line_told site places manner m (end_of s events) event
trace_more site places manner n m s [] event is =
    append-nil (line_told site places manner n s event)
    ∙ ap (λ k. line_told site places manner k s event) (first_number n m is)
trace_more site places manner n m s (one ∷ events) event is =
    ap (λ text. line_told site places manner n s one ++ text)
    (trace_more site places manner (n + 1) m (state_after (play s one) s) events event
    (later_number n (length events) m is))
    ∙ sym (append_assoc (line_told site places manner n s one)
    (trace_from site places manner (n + 1) (state_after (play s one) s) events)
    (line_told site places manner m (end_of (state_after (play s one) s) events) event))

pub next_number : (n played : ℕ) → n ≡ played → 1 + n ≡ played + 1
next_number n played is = omega (arith, is)

-- What is told

-- a schedule with a stop on a site, and what of its events is told
pub record Telling : Type 0 where
  pub site : Site
  pub places : Places
  pub lines : List Line
  pub stop : Option ProcessorStop
  pub manner : Manner

abbrev pub trace_by : Telling → List Event → List ℕ
trace_by t events = trace_of t.site t.places t.manner events

abbrev pub line_by : Telling → ℕ → Packeted → Event → List ℕ
line_by t number s event = line_told t.site t.places t.manner number s event

-- so many events of a schedule were played, and led to this state and to where the schedule stands; and their trace has
-- gone out
pub record IsTracing {K : Type 0} (held : K → Option (List ℕ)) (faults : K → ℕ) (sure : K → ℕ → Type 0) (old now : K)
    (t : Telling) (schedule : Scheduled) (s : Packeted) (played : ℕ) : Type 0 where
  pub events : List Event
  pub counted : length events ≡ played
  pub plays : Plays packet_rules (course_on t.site t.lines t.stop) events schedule.agenda s
  pub sizes : schedule.sizes ≡ sizes_of t.site
  pub puts : Puts held faults sure old now (trace_by t events) (Ok tt)

pub longer : (events : List Event) (event : Event) → length (events ++ event ∷ []) ≡ length events + 1
longer events event = length-append events (event ∷ [])

-- the plan that an event comes by, and where the schedule stands then
abbrev pub Found : Option Plan → Event → Scheduled → Scheduled → Type 0
Found u event before after =
    (plan : Plan) × (u ≡ Some plan) × (plan.event ≡ event) × (after ≡ record before { agenda = plan.agenda })

pub planned : (u : Option Plan) (event : Event) (before after : Scheduled) → event_in u ≡ Some event
    → IfSome u (λ plan. after ≡ record before { agenda = plan.agenda }) → Found u event before after
planned None event before after e next = absurd (cc)
planned (Some plan) event before after e next = (plan, refl, cc, next)

-- at the beginning nothing was played
pub begins : {K : Type 0} (held : K → Option (List ℕ)) (faults : K → ℕ) (sure : K → ℕ → Type 0) (sink : K)
    (t : Telling) (schedule : Scheduled) (s : Packeted) (sizes : Sizes) → s ≡ packeted_at_boot t.site
    → sizes ≡ sizes_of t.site → schedule ≡ record { sizes = sizes; agenda = agenda_of t.lines t.stop }
    → IsTracing held faults sure sink sink t schedule s 0
begins held faults sure sink t schedule s sizes booted counted is = record {
  events = [];
  counted = refl;
  plays =
      subst (λ (one : Packeted). Plays packet_rules (course_on t.site t.lines t.stop) [] schedule.agenda one)
      (sym booted)
      (subst (λ (agenda : Agenda). Plays packet_rules (course_on t.site t.lines t.stop) [] agenda
      (packeted_at_boot t.site))
      (sym (ap (λ (all : Scheduled). all.agenda) is)) seen_none);
  sizes = ap (λ (all : Scheduled). all.sizes) is ∙ counted;
  puts = puts_nothing held faults sure sink;
}

pub playing_of : {K : Type 0} (held : K → Option (List ℕ)) (faults : K → ℕ) (sure : K → ℕ → Type 0) (old now : K)
    (t : Telling) (schedule : Scheduled) (s : Packeted) (n : ℕ) → IsTracing held faults sure old now t schedule s n
    → IsPlaying packet_rules (course_on t.site t.lines t.stop) schedule s n
playing_of held faults sure old now t schedule s n tracing =
    record { events = tracing.events; counted = tracing.counted; plays = tracing.plays; sizes = tracing.sizes }

-- no more events were played than the schedule asks for
pub few_told : {K : Type 0} (held : K → Option (List ℕ)) (faults : K → ℕ) (sure : K → ℕ → Type 0) (old now : K)
    (t : Telling) (schedule : Scheduled) (s : Packeted) (n : ℕ)
    → CanBePlayed packet_rules IsReady (course_on t.site t.lines t.stop)
    → IsTracing held faults sure old now t schedule s n → n < 4294967294
few_told held faults sure old now t schedule s n can tracing =
    few_played packet_rules IsReady (course_on t.site t.lines t.stop) schedule s n can
    (playing_of held faults sure old now t schedule s n tracing)

-- and the state is ready
pub ready_told : {K : Type 0} (held : K → Option (List ℕ)) (faults : K → ℕ) (sure : K → ℕ → Type 0) (old now : K)
    (t : Telling) (schedule : Scheduled) (s : Packeted) (n : ℕ)
    → CanBePlayed packet_rules IsReady (course_on t.site t.lines t.stop)
    → IsTracing held faults sure old now t schedule s n → IsReady s
ready_told held faults sure old now t schedule s n can tracing =
    loop.is_ready packet_rules IsReady (course_on t.site t.lines t.stop) schedule s n can
    (playing_of held faults sure old now t schedule s n tracing)

-- the trace of what was played, and of the event that comes next
pub trace_next : {K : Type 0} (held : K → Option (List ℕ)) (faults : K → ℕ) (sure : K → ℕ → Type 0) (old now : K)
    (t : Telling) (schedule : Scheduled) (s : Packeted) (n : ℕ)
    (tracing : IsTracing held faults sure old now t schedule s n) (one event : Event)
    → one ≡ event
    → trace_by t (tracing.events ++ one ∷ []) ≡ trace_by t tracing.events ++ line_by t (n + 1) s event
trace_next held faults sure old now t schedule s n tracing one event is =
    trace_more t.site t.places t.manner 1 (n + 1) (packeted_at_boot t.site) tracing.events one
    (next_number (length tracing.events) n tracing.counted)
    ∙ ap₂ (λ (at : Packeted) (next : Event). trace_by t tracing.events ++ line_by t (n + 1) at next)
    (leads_there tracing.plays) is

-- what comes next, by the events that were played
pub comes_after : {K : Type 0} (held : K → Option (List ℕ)) (faults : K → ℕ) (sure : K → ℕ → Type 0) (old now : K)
    (t : Telling) (schedule : Scheduled) (s : Packeted) (n : ℕ)
    (tracing : IsTracing held faults sure old now t schedule s n) (plan : Option Plan)
    → Coming packet_rules schedule s n ≡ plan
    → planned_in packet_rules (sizes_of t.site) (length tracing.events) s schedule.agenda ≡ plan
comes_after held faults sure old now t schedule s n tracing plan is =
    subst (λ (sizes : Sizes). planned_in packet_rules sizes (length tracing.events) s schedule.agenda ≡ plan)
    tracing.sizes
    (subst (λ m. planned_in packet_rules schedule.sizes m s schedule.agenda ≡ plan) (sym tracing.counted) is)

-- an event was played, and its line went out
pub goes_on : {K : Type 0} (held : K → Option (List ℕ)) (faults : K → ℕ) (sure : K → ℕ → Type 0) (old mid now : K)
    (t : Telling) (before after : Scheduled) (s next : Packeted) (n : ℕ) (event : Event)
    → IsTracing held faults sure old mid t before s n → event_in (Coming packet_rules before s n) ≡ Some event
    → IfSome (Coming packet_rules before s n) (λ plan. after ≡ record before { agenda = plan.agenda })
    → IsTriedBy packet_rules s event next None
    → Puts held faults sure mid now (line_by t (n + 1) s event) (Ok tt)
    → IsTracing held faults sure old now t after next (n + 1)
goes_on held faults sure old mid now t before after s next n event tracing e stands tried puts =
    let found : Found (Coming packet_rules before s n) event before after =
    planned (Coming packet_rules before s n) event before after e stands in
    let plays : Plays packet_rules (course_on t.site t.lines t.stop) (tracing.events ++ found.0.event ∷ [])
    found.0.agenda next =
    seen_on found.0 tracing.plays
    (comes_after held faults sure old mid t before s n tracing (Some found.0) found.1)
    (subst (λ one. IsTriedBy packet_rules s one next None) (sym found.2) tried) in
    record {
      events = tracing.events ++ found.0.event ∷ [];
      counted = longer tracing.events found.0.event ∙ ap (λ m. m + 1) tracing.counted;
      plays = subst (λ agenda. Plays packet_rules (course_on t.site t.lines t.stop)
          (tracing.events ++ found.0.event ∷ []) agenda next)
          (sym (ap (λ (all : Scheduled). all.agenda) found.3)) plays;
      sizes = ap (λ (all : Scheduled). all.sizes) found.3 ∙ tracing.sizes;
      puts = subst (λ text. Puts held faults sure old now text (Ok tt))
          (sym (trace_next held faults sure old mid t before s n tracing found.0.event event found.2))
          (puts_both held faults sure old mid now (trace_by t tracing.events) (line_by t (n + 1) s event) (Ok tt)
          tracing.puts puts);
    }

-- How a run ends that is being told.
use Rattle.std.proofs.Common.{◌≡◌, ◌<◌, ◌∙◌, ℕ, ◌+◌, Bool, true, false, List, [], ◌∷◌, ◌++◌, Option, Some, None}
use Rattle.std.proofs.Common.{refl, ap, sym, subst, append-nil, Ok, Err}
use Rattle.std.specs.Option.{IfSome}
use Rattle.agendas.specs.Agendas.{Plan, agenda_of}
use Rattle.gd_io.specs.Joining.{puts_both, puts_nothing}
use Rattle.gd_io.specs.Puts.{Puts}
use Rattle.gd_io.specs.declared.writing.WriteFault.{WriteFault}
use Rattle.gd_words.specs.declared.memory.NoMemory.{NoMemory}
use Rattle.packet_runs.specs.Runs.{course_on, packet_rules}
use Rattle.packet_runs.specs.declared.ran.Ran.{Ran}
use Rattle.schedule.specs.declared.event.Event.{Event}
use Rattle.schedule_loop.proofs.Playing.{Coming, runs_out, runs_to_harm}
use Rattle.schedule_loop.specs.Ends.{IsEndBy, IsTriedBy}
use Rattle.schedule_loop.specs.Plans.{seen_none}
use Rattle.schedule_loop.specs.Seen.{Scheduled, event_in}
use Rattle.schedule_loop.specs.declared.ran.Ending.{Ending}
use Rattle.packet_runs.specs.site_machine.specs.packet_wires.specs.Idle.{is_idle}
use Rattle.packet_runs.specs.site_machine.specs.packet_wires.specs.Play.{Packeted, packeted_at_boot}
use Rattle.traced_runs.specs.Traces.{AreAskedFor, IsWantOfMemory, Tells, Traces}
use Rattle.traced_runs.specs.declared.fault.TraceFault.{TraceFault}
use Rattle.traced_runs.specs.declared.fault.TraceFault.TheVariants as fault
use Rattle.traced_runs.proofs.Tracing.{Found, IsTracing, Telling, comes_after, line_by, longer, planned, playing_of}
use Rattle.traced_runs.proofs.Tracing.{trace_by, trace_next}
use Rattle.std.specs.Prelude.{IfErr, IfOk, Result}

abbrev pub TracesBy : {K : Type 0} → (K → Option (List ℕ)) → (K → ℕ) → (K → ℕ → Type 0) → K → K → Telling
    → Result Ran TraceFault → Type 0
TracesBy held faults sure old now t result =
    Traces held faults sure old now t.site t.places t.lines t.stop t.manner result

asked_now : {K : Type 0} (held : K → Option (List ℕ)) (faults : K → ℕ) (sure : K → ℕ → Type 0) (old now : K)
    (t : Telling) (schedule : Scheduled) (s : Packeted) (n : ℕ)
    (tracing : IsTracing held faults sure old now t schedule s n)
    → AreAskedFor (course_on t.site t.lines t.stop) tracing.events
asked_now held faults sure old now t schedule s n tracing = record {
  events = tracing.events;
  agenda = schedule.agenda;
  state = s;
  played = tracing.plays;
  last = None;
  comes = tt;
  are = sym (append-nil tracing.events);
}

asked_next : {K : Type 0} (held : K → Option (List ℕ)) (faults : K → ℕ) (sure : K → ℕ → Type 0) (old now : K)
    (t : Telling) (schedule : Scheduled) (s : Packeted) (n : ℕ)
    (tracing : IsTracing held faults sure old now t schedule s n) (plan : Plan)
    → Coming packet_rules schedule s n ≡ Some plan
    → AreAskedFor (course_on t.site t.lines t.stop) (tracing.events ++ plan.event ∷ [])
asked_next held faults sure old now t schedule s n tracing plan is = record {
  events = tracing.events;
  agenda = schedule.agenda;
  state = s;
  played = tracing.plays;
  last = Some plan;
  comes = comes_after held faults sure old now t schedule s n tracing (Some plan) is;
  are = refl;
}

-- memory ran out before anything was played
pub without_memory_at_first : {K : Type 0} (held : K → Option (List ℕ)) (faults : K → ℕ) (sure : K → ℕ → Type 0)
    (sink : K) (t : Telling) (memory : NoMemory)
    → TracesBy held faults sure sink sink t (Err (fault.NoMemory memory))
without_memory_at_first held faults sure sink t memory = (
  [],
  record {
    events = [];
    agenda = agenda_of t.lines t.stop;
    state = packeted_at_boot t.site;
    played = seen_none;
    last = None;
    comes = tt;
    are = refl;
  },
  puts_nothing held faults sure sink,
)

-- or after some events
pub without_memory : {K : Type 0} (held : K → Option (List ℕ)) (faults : K → ℕ) (sure : K → ℕ → Type 0)
    (old mid now : K) (t : Telling) (schedule : Scheduled) (s : Packeted) (n : ℕ) (memory : NoMemory)
    → IsTracing held faults sure old mid t schedule s n → Puts held faults sure mid now [] (Ok tt)
    → TracesBy held faults sure old now t (Err (fault.NoMemory memory))
without_memory held faults sure old mid now t schedule s n memory tracing puts = (
  tracing.events,
  asked_now held faults sure old mid t schedule s n tracing,
  subst (λ text. Puts held faults sure old now text (Ok tt)) (append-nil (trace_by t tracing.events))
      (puts_both held faults sure old mid now (trace_by t tracing.events) [] (Ok tt) tracing.puts puts),
)

-- a line did not go out whole
pub cut_off : {K : Type 0} (held : K → Option (List ℕ)) (faults : K → ℕ) (sure : K → ℕ → Type 0)
    (old mid now : K) (t : Telling) (before after : Scheduled) (s : Packeted) (n : ℕ) (event : Event)
    (why : WriteFault)
    → IsTracing held faults sure old mid t before s n → event_in (Coming packet_rules before s n) ≡ Some event
    → IfSome (Coming packet_rules before s n) (λ plan. after ≡ record before { agenda = plan.agenda })
    → Puts held faults sure mid now (line_by t (n + 1) s event) (Err why)
    → TracesBy held faults sure old now t (Err (fault.Write why))
cut_off held faults sure old mid now t before after s n event why tracing e stands puts =
    let found : Found (Coming packet_rules before s n) event before after =
    planned (Coming packet_rules before s n) event before after e stands in (
      tracing.events ++ found.0.event ∷ [],
      asked_next held faults sure old mid t before s n tracing found.0 found.1,
      subst (λ text. Puts held faults sure old now text (Err why))
          (sym (trace_next held faults sure old mid t before s n tracing found.0.event event found.2))
          (puts_both held faults sure old mid now (trace_by t tracing.events) (line_by t (n + 1) s event) (Err why)
          tracing.puts puts),
    )

-- an event was not told
pub ends_at_fault : {K : Type 0} (held : K → Option (List ℕ)) (faults : K → ℕ) (sure : K → ℕ → Type 0)
    (old mid now : K) (t : Telling) (before after : Scheduled) (s : Packeted) (n : ℕ) (event : Event)
    (why : TraceFault)
    → IsTracing held faults sure old mid t before s n → event_in (Coming packet_rules before s n) ≡ Some event
    → IfSome (Coming packet_rules before s n) (λ plan. after ≡ record before { agenda = plan.agenda })
    → Tells {A = Option Ending} held faults sure mid now (line_by t (n + 1) s event) (Err why)
    → TracesBy held faults sure old now t (Err why)
ends_at_fault held faults sure old mid now t before after s n event (fault.Write why) tracing e stands puts =
    cut_off held faults sure old mid now t before after s n event why tracing e stands puts
ends_at_fault held faults sure old mid now t before after s n event (fault.NoMemory memory) tracing e stands puts =
    without_memory held faults sure old mid now t before s n memory tracing puts

pub counted_at_end : (s left : Packeted) (n asked : ℕ) (idle : Bool) (ending : Ending)
    → IsEndBy packet_rules s n idle left asked ending → asked ≡ n
counted_at_end s left n asked true ending end = end.2
counted_at_end s left n asked false ending end = end.2

-- the schedule is over
pub runs_to_end : {K : Type 0} (held : K → Option (List ℕ)) (faults : K → ℕ) (sure : K → ℕ → Type 0)
    (old now : K) (t : Telling) (schedule : Scheduled) (s : Packeted) (n : ℕ) (ran : Ran)
    → IsTracing held faults sure old now t schedule s n
    → event_in (Coming packet_rules schedule s n) ≡ None → n < 4294967295 → ran.machine.is_broken ≡ false
    → IsEndBy packet_rules s n (is_idle s) ran.machine.state ran.asked ran.ending
    → TracesBy held faults sure old now t (Ok ran)
runs_to_end held faults sure old now t schedule s n ran tracing e few whole end = (
  tracing.events,
  asked_now held faults sure old now t schedule s n tracing,
  (
    runs_out packet_rules (course_on t.site t.lines t.stop) schedule s ran.machine.state n ran.asked ran.ending
        ran.machine.is_broken (playing_of held faults sure old now t schedule s n tracing) e few whole end,
    tracing.counted ∙ sym (counted_at_end s ran.machine.state n ran.asked (is_idle s) ran.ending end),
  ),
  tracing.puts,
)

-- and memory for closing it may run out
pub run_ends : {K : Type 0} (held : K → Option (List ℕ)) (faults : K → ℕ) (sure : K → ℕ → Type 0)
    (old now : K) (t : Telling) (schedule : Scheduled) (s : Packeted) (n : ℕ) (result : Result Ran TraceFault)
    → IsTracing held faults sure old now t schedule s n
    → event_in (Coming packet_rules schedule s n) ≡ None → n < 4294967295
    → IfOk result (λ ran. ran.machine.is_broken ≡ false)
    → IfOk result (λ ran. IsEndBy packet_rules s n (is_idle s) ran.machine.state ran.asked ran.ending)
    → IfErr result IsWantOfMemory → TracesBy held faults sure old now t result
run_ends held faults sure old now t schedule s n (Ok ran) tracing e few whole end want =
    runs_to_end held faults sure old now t schedule s n ran tracing e few whole end
run_ends held faults sure old now t schedule s n (Err (fault.NoMemory memory)) tracing e few whole end want =
    without_memory held faults sure old now now t schedule s n memory tracing (puts_nothing held faults sure now)
run_ends held faults sure old now t schedule s n (Err (fault.Write why)) tracing e few whole end want = absurd want

-- the next event would do harm
pub ends_at_harm : {K : Type 0} (held : K → Option (List ℕ)) (faults : K → ℕ) (sure : K → ℕ → Type 0)
    (old mid now : K) (t : Telling) (before after : Scheduled) (s : Packeted) (n : ℕ) (event : Event) (ran : Ran)
    → IsTracing held faults sure old mid t before s n → event_in (Coming packet_rules before s n) ≡ Some event
    → IfSome (Coming packet_rules before s n) (λ plan. after ≡ record before { agenda = plan.agenda })
    → IsTriedBy packet_rules s event ran.machine.state (Some ran.ending) → ran.machine.is_broken ≡ false
    → n < 4294967295 → ran.asked ≡ n + 1
    → Puts held faults sure mid now (line_by t (n + 1) s event) (Ok tt)
    → TracesBy held faults sure old now t (Ok ran)
ends_at_harm held faults sure old mid now t before after s n event ran tracing e stands tried whole few asked puts =
    let found : Found (Coming packet_rules before s n) event before after =
    planned (Coming packet_rules before s n) event before after e stands in (
      tracing.events ++ found.0.event ∷ [],
      asked_next held faults sure old mid t before s n tracing found.0 found.1,
      (
        runs_to_harm packet_rules (course_on t.site t.lines t.stop) before after s ran.machine.state n ran.asked event
            ran.ending ran.machine.is_broken (playing_of held faults sure old mid t before s n tracing) e stands tried
            whole few asked,
        longer tracing.events found.0.event ∙ ap (λ m. m + 1) tracing.counted ∙ sym asked,
      ),
      subst (λ text. Puts held faults sure old now text (Ok tt))
          (sym (trace_next held faults sure old mid t before s n tracing found.0.event event found.2))
          (puts_both held faults sure old mid now (trace_by t tracing.events) (line_by t (n + 1) s event) (Ok tt)
          tracing.puts puts),
    )

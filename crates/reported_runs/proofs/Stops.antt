-- The processors of the world stay those of the site, and only one of them would stop.
use Rattle.std.proofs.Common.{◌≡◌, ◌<◌, ℕ, Bool, true, false, if◌then◌else◌, List, length, slice_get, Option, Some}
use Rattle.std.proofs.Common.{None, refl, ap, subst, ◌∙◌, length-set}
use Rattle.std.proofs.lemmas.List.{length-replicate}
use Rattle.std.proofs.lemmas.Option.{slice_get_within}
use Rattle.tal_tree.specs.declared.site.Site.{Site}
use Rattle.schedule.specs.declared.event.Event.{Event}
use Rattle.schedule.specs.declared.event.Event.TheVariants.{Run, Enter, Deliver, Lose, Repeat, Tick, Fail, Reload}
use Rattle.schedule.specs.declared.event.Event.TheVariants.{Drive}
use Rattle.schedule.specs.declared.line.Line.{Line}
use Rattle.player.specs.declared.stop.ProcessorStop.{ProcessorStop}
use Rattle.schedule.specs.declared.bus_name.BusName.{BusName}
use Rattle.packet_words.specs.declared.packet.Packet.{Packet}
use Rattle.world_semantics.specs.Running.{Done, run_done}
use Rattle.world_semantics.specs.World.{is_running}
use Rattle.agendas.specs.Agendas.{Agenda}
use Rattle.computed_changes.specs.Entered.{enter_done}
use Rattle.computed_changes.specs.Stopped.{reload_done, stop_done}
use Rattle.machine_states.specs.States.{Makes, Played, Skips, State, Would, SecondStop, DiscLoss}
use Rattle.packet_wires.specs.Play.{Packeted, Underway, acted, underway, deliver_acted, ended, fail_acted, line_of}
use Rattle.packet_wires.specs.Play.{lose_acted, made_by, packet_at, play, pulled, pulled_running, pulls, pulls_its}
use Rattle.packet_wires.specs.Play.{reload_acted, repeat_acted, stop_acted, taken_off, tick_acted}
use Rattle.packet_wires.specs.Runs.{IsPlayed, played_none, played_more, skipped}
use Rattle.packet_wires.specs.Wires.{Midst, Wires, midst_after_tick}
use Rattle.packets_laws.proofs.Going as going
use Rattle.packets_laws.proofs.Going.{Goes, play-goes}
use Rattle.command_dues.specs.packet_runs.proofs.Played.{played}
use Rattle.command_dues.specs.packet_runs.specs.Ends.{IsRunOf}
use Rattle.command_dues.specs.packet_runs.specs.Runs.{course_on, packet_rules}
use Rattle.command_dues.specs.packet_runs.specs.declared.ran.Ran.{Ran}
use Rattle.schedule_loop.specs.Ends.{EndsBy, Plays}
use Rattle.schedule_loop.specs.declared.ran.Ending.{Ending}
use Rattle.schedule_loop.specs.declared.ran.Ending.TheVariants.{Idle, Cut, Lost, Second}
use Rattle.report_judge.specs.Reported.{IsEndOfRun}
use Rattle.command_dues.specs.RunEnds.{closing_of}
use Rattle.machine_states.proofs.Turning.{drive-cases}
use Rattle.trace_print.specs.declared.closing.Closing.TheVariants.{Ended}
use Rattle.trace_print.specs.declared.closing.End.{End}

-- As many processors

event-size : (s : Packeted) (event : Event) (next : Packeted) → play s event ≡ Makes next
    → length next.world.stopped ≡ length s.world.stopped
event-size s event next made = by (play s event) (play-goes s event) made
  where
    to-next : (it : Packeted) → it ≡ next → length it.world.stopped ≡ length s.world.stopped
        → length next.world.stopped ≡ length s.world.stopped
    to-next it same size = subst (λ (m : Packeted). length m.world.stopped ≡ length s.world.stopped) same size

    by : (all : Played Wires) → Goes event s all → all ≡ Makes next
        → length next.world.stopped ≡ length s.world.stopped
    by _ going.skips is = absurd (cc)
    by _ (going.would_harm harm) is = absurd (cc)
    by _ (going.stops_none {next = it} site stopped) is = to-next it (cc) (ap length stopped)
    by _ (going.stops_one {next = it} processor site first stopped) is =
        to-next it (cc) (ap length stopped ∙ length-set s.world.stopped processor true)
    by _ (going.starts_one {next = it} processor loads site stopped) is =
        to-next it (cc) (ap length stopped ∙ length-set s.world.stopped processor false)

played-size : {site : Site} {events : List Event} {s : Packeted} → IsPlayed site events s
    → length s.world.stopped ≡ site.processors
played-size {site = site} played_none = length-replicate site.processors false
played-size (played_more {s = s} {next = next} event before makes) = event-size s event next makes ∙ played-size before
played-size (skipped event before skips) = played-size before

-- Which one would stop

-- only a processor of the world would stop
abbrev StopsThere : {W V : Type 0} → State W → Played V → Type 0
StopsThere s (Makes next) = Unit {0}
StopsThere s Skips = Unit {0}
StopsThere s (Would (SecondStop processor)) = processor < length s.world.stopped
StopsThere s (Would (DiscLoss process)) = Unit {0}

made-there : (s : Underway) (done : Option Done) → StopsThere s (made_by s done)
made-there s None = tt
made-there s (Some done) = tt

deliver-there : (name : BusName) (s : Underway) (packet : Option Packet) → StopsThere s (deliver_acted name s packet)
deliver-there name s None = tt
deliver-there name s (Some packet) = tt

lose-there : (s : Underway) (packet : Option Packet) → StopsThere s (lose_acted s packet)
lose-there s None = tt
lose-there s (Some packet) = tt

repeat-there : (name : BusName) (s : Underway) (packet : Option Packet) → StopsThere s (repeat_acted name s packet)
repeat-there name s None = tt
repeat-there name s (Some packet) = tt

-- one that runs, and would stop where the world isn't whole
stop-there : (processor : ℕ) (s : Underway) → processor < length s.world.stopped → (done : Option Done)
    → StopsThere s (stop_acted processor s done)
stop-there processor s low None = low
stop-there processor s low (Some done) = tt

fail-there : (processor : ℕ) (s : Underway) (there : Option Bool) → slice_get s.world.stopped processor ≡ there
    → StopsThere s (fail_acted processor s there)
fail-there processor s None at = tt
fail-there processor s (Some true) at = tt
fail-there processor s (Some false) at =
    stop-there processor s (slice_get_within s.world.stopped processor false at) (stop_done processor s.world)

reload-there : (processor : ℕ) (s : Underway) (done : Option Done) → StopsThere s (reload_acted processor s done)
reload-there processor s None = tt
reload-there processor s (Some done) = tt

tick-there : (node : ℕ) (s : Underway) → StopsThere s (tick_acted node s)
tick-there node s = by (is_running s.world.stopped node)
  where
    at : (midst : Midst) (processor : ℕ) (there : Option Bool) → slice_get s.world.stopped processor ≡ there
        → StopsThere s (pulled node processor (record s { wires = midst }) there)
    at midst processor None is = tt
    at midst processor (Some true) is = tt
    at midst processor (Some false) is = first (stop_done processor s.world)
      where
        first : (done : Option Done)
            → StopsThere s (pulled_running node processor (record s { wires = midst }) done)
        first None = slice_get_within s.world.stopped processor false is
        first (Some done) = tt

    line : (midst : Midst) (line : Option ℕ) → StopsThere s (pulls node (record s { wires = midst }) line)
    line midst None = tt
    line midst (Some processor) = at midst processor (slice_get s.world.stopped processor) refl

    by : (test : Bool) → StopsThere s (if test then pulls_its node
        (record s { wires = midst_after_tick s.site.processors node s.wires }) else Skips)
    by true = line (midst_after_tick s.site.processors node s.wires)
        (line_of node (record s { wires = midst_after_tick s.site.processors node s.wires }))
    by false = tt

acted-there : (s : Packeted) (event : Event) → StopsThere (underway s) (acted s event)
acted-there s (Run number) = made-there (underway s) (run_done s.site number s.world)
acted-there s (Enter number) = made-there (underway s) (enter_done s.site number s.world)
acted-there s (Deliver bus k) = deliver-there bus (underway s) (packet_at s bus k)
acted-there s (Lose bus k) = lose-there (underway s) (packet_at s bus k)
acted-there s (Repeat bus k) = repeat-there bus (underway s) (packet_at s bus k)
acted-there s (Tick node) = tick-there node (underway s)
acted-there s (Fail processor) =
    fail-there processor (underway s) (slice_get s.world.stopped processor) refl
acted-there s (Reload processor) = reload-there processor (underway s) (reload_done s.site processor s.world)
acted-there s (Drive event) =
    drive-cases event (underway s) (StopsThere (underway s)) (λ drives. tt) tt (λ process. tt)

play-there : (s : Packeted) (event : Event) → StopsThere s (play s event)
play-there s event = by (acted s event) (acted-there s event)
  where
    by : (all : Played Midst) → StopsThere (underway s) all → StopsThere s (ended (taken_off event s.wires) all)
    by Skips there = tt
    by (Makes next) there = tt
    by (Would (SecondStop processor)) there = there
    by (Would (DiscLoss process)) there = tt

event-there : (s : Packeted) (event : Event) (one : ℕ) → play s event ≡ Would (SecondStop one)
    → one < length s.world.stopped
event-there s event one would = subst (StopsThere s) would (play-there s event)

-- Runs

-- what is known of the processors where a run ended
pub record AreOfSite (site : Site) (left : Packeted) (ending : Ending) : Type 0 where
  pub size : length left.world.stopped ≡ site.processors
  pub end : (end : End) → closing_of ending ≡ Ended end → IsEndOfRun site end

same-ended : {one other : End} → Ended one ≡ Ended other → one ≡ other
same-ended is = cc

size-at : (site : Site) (lines : List Line) (stop : Option ProcessorStop) (events : List Event) (agenda : Agenda)
    (s : Packeted) → Plays packet_rules (course_on site lines stop) events agenda s
    → length s.world.stopped ≡ site.processors
size-at site lines stop events agenda s plays =
    played-size {site = site} {events = events} {s = s}
    (played {site = site} {lines = lines} {stop = stop} {events = events} {agenda = agenda} {s = s} plays)

ends-of-site : (site : Site) (lines : List Line) (stop : Option ProcessorStop) (events : List Event)
    (s left : Packeted) (asked : ℕ) (ending : Ending)
    → EndsBy packet_rules (course_on site lines stop) events s left asked ending → AreOfSite site left ending
ends-of-site site lines stop events s left asked Idle ends = record {
  size = ap (λ (m : Packeted). length m.world.stopped) ends.2
      ∙ size-at site lines stop events ends.0.agenda s ends.0.played;
  end = λ end is. subst (IsEndOfRun site) (same-ended is) tt;
}
ends-of-site site lines stop events s left asked Cut ends = record {
  size = ap (λ (m : Packeted). length m.world.stopped) ends.2
      ∙ size-at site lines stop events ends.0.agenda s ends.0.played;
  end = λ end is. subst (IsEndOfRun site) (same-ended is) tt;
}
ends-of-site site lines stop events s left asked (Second processor) ends =
    let size : length s.world.stopped ≡ site.processors =
    size-at site lines stop events ends.0.agenda s ends.0.played in
    record {
      size = ap (λ (m : Packeted). length m.world.stopped) ends.1 ∙ size;
      end = λ end is. subst (IsEndOfRun site) (same-ended is)
          (subst (λ (n : ℕ). processor < n) size (event-there s ends.0.plan.event processor ends.0.would));
    }
ends-of-site site lines stop events s left asked (Lost process) ends = record {
  size = ap (λ (m : Packeted). length m.world.stopped) ends.1
      ∙ size-at site lines stop events ends.0.agenda s ends.0.played;
  end = λ end is. absurd (cc);
}

pub run-of-site : (site : Site) (lines : List Line) (stop : Option ProcessorStop) (ran : Ran)
    → IsRunOf site lines stop ran → AreOfSite site ran.machine.state ran.ending
run-of-site site lines stop ran run =
    ends-of-site site lines stop run.events run.state ran.machine.state ran.asked ran.ending run.ends

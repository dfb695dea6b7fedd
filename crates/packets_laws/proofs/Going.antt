-- Which processors an event stops or starts: it stops one in a whole world alone, and starts the one alone that it
-- loads again. So at most one has stopped.
use Rattle.std.proofs.Common.{◌≡◌, ◌&&◌, ℕ, ℤ, nat_lt, Bool, true, false, if◌then◌else◌, List, Option}
use Rattle.std.proofs.Common.{Some, None, slice_get, slice_set, refl, sym, subst, ◌∙◌}
use Rattle.tal_tree.specs.declared.site.Site.{Site}
use Rattle.schedule.specs.declared.event.Event.{Event}
use Rattle.schedule.specs.declared.event.Event.TheVariants.{Run, Enter, Deliver, Lose, Repeat, Tick, Fail, Reload}
use Rattle.schedule.specs.declared.event.Event.TheVariants.{Drive}
use Rattle.schedule.specs.declared.bus_name.BusName.{BusName}
use Rattle.packet_words.specs.declared.packet.Packet.{Packet}
use Rattle.world_semantics.specs.Messages.{Checkpointing}
use Rattle.world_semantics.specs.Running.{Done, run_done}
use Rattle.world_semantics.specs.Rules.{most_reloads}
use Rattle.world_semantics.specs.World.{boot, is_marked_by_all, is_running, is_whole}
use Rattle.computed_changes.specs.Entered.{enter_done}
use Rattle.computed_changes.specs.Changed.{change_done}
use Rattle.computed_changes.specs.Handed.{handed_done}
use Rattle.computed_changes.proofs.Changed.{change-each}
use Rattle.computed_changes.specs.Stopped.{down_done, stopped_world, stop_if, reload_counted, reload_done, reload_if}
use Rattle.computed_changes.specs.Stopped.{reload_where}
use Rattle.letters.specs.Idle.{OneStops}
use Rattle.message_wires_laws.specs.machine_states.specs.States.{State, Played, Makes, Skips, Would, SecondStop}
use Rattle.message_wires_laws.specs.machine_states.specs.States.{DiscLoss, Harm}
use Rattle.message_wires_laws.specs.message_wires.specs.Play.{some_has_stopped}
use Rattle.world_semantics.proofs.Lists.{Changed, is_new, is_same, changed}
use Rattle.message_wires_laws.proofs.Going.{none-at-boot, none-stopped, whole-runs}
use Rattle.message_wires_laws.proofs.Stopping.{StopsNone, run-none, enter-none, handed-none, mark-none}
use Rattle.letters_layout.specs.message_layout.specs.Messages.{NodeMessage, Carrying, Changing, Reporting, Declaring}
use Rattle.letters_layout.specs.message_layout.specs.Reading.{understood}
use Rattle.packet_nets.specs.packet_wires.specs.Play.{Packeted, Underway, underway, made_by, after_any, marked_by}
use Rattle.packet_nets.specs.packet_wires.specs.Play.{marks}
use Rattle.packet_nets.specs.packet_wires.specs.Play.{handed, handed_any}
use Rattle.packet_nets.specs.packet_wires.specs.Play.{handed_words, message_at_end, received, deliver_acted, lose_acted}
use Rattle.packet_nets.specs.packet_wires.specs.Play.{repeat_acted}
use Rattle.packet_nets.specs.packet_wires.specs.Play.{comes_in, stop_acted, fail_acted, reload_acted, pulled_running}
use Rattle.packet_nets.specs.packet_wires.specs.Play.{pulled, pulls, line_of, pulls_its, tick_acted, packet_at, acted}
use Rattle.packet_nets.specs.packet_wires.specs.Play.{taken_off}
use Rattle.packet_nets.specs.packet_wires.specs.Play.{ended, play}
use Rattle.packet_nets.specs.packet_wires.specs.Nodes.{end_at}
use Rattle.packet_nets.specs.packet_wires.specs.Runs.{IsPlayed, played_none, played_more, skipped}
use Rattle.packet_nets.specs.packet_wires.specs.Wires.{Wires, Midst, midst_after_arrival, midst_after_tick}
use Rattle.message_wires_laws.specs.machine_states.proofs.Turning.{drive-cases}

-- the site is the same, and so is who has stopped
pub record Stays (s next : Underway) : Type 0 where
  pub site : next.site ≡ s.site
  pub stopped : next.world.stopped ≡ s.world.stopped

-- an event stops and starts no processor; or it stops one, and the world was whole; or it starts the one that it loads
-- again
pub data Goes {W V : Type 0} (event : Event) (s : State W) : Played V → Type 0 where
  skips : Goes event s Skips
  would_harm : (harm : Harm) → Goes event s (Would harm)
  stops_none : {next : State V} → next.site ≡ s.site → next.world.stopped ≡ s.world.stopped
      → Goes event s (Makes next)
  stops_one : {next : State V} (processor : ℕ) → next.site ≡ s.site → is_whole s.world ≡ true
      → next.world.stopped ≡ slice_set s.world.stopped processor true
      → Goes event s (Makes next)
  starts_one : {next : State V} (processor : ℕ) → event ≡ Reload processor → next.site ≡ s.site
      → next.world.stopped ≡ slice_set s.world.stopped processor false
      → Goes event s (Makes next)

made-goes : (event : Event) (s : Underway) (done : Option Done) → StopsNone s.world done
    → Goes event s (made_by s done)
made-goes event s None none = skips
made-goes event s (Some done) none = stops_none refl none

pub marks-stay : (node processor : ℕ) (s : Underway) → Stays s (marks node processor s)
marks-stay node processor s = by (down_done node processor s.world) (mark-none s.site s.world node processor)
  where
    by : (done : Option Done) → StopsNone s.world done → Stays s (marked_by node processor s done)
    by None none = record { site = refl; stopped = refl }
    by (Some done) none = record { site = refl; stopped = none }

handed-stay : (node : ℕ) (told : NodeMessage) (s : Underway) → Stays s (handed node told s)
handed-stay node (Carrying message) s =
    by (handed_done s.site node message s.world) (handed-none s.site s.world node message)
  where
    by : (done : Option Done) → StopsNone s.world done → Stays s (after_any s done)
    by None none = record { site = refl; stopped = refl }
    by (Some done) none = record { site = refl; stopped = none }
handed-stay node (Changing change) s =
    by (change_done s.site node change s.world) (change-each s.site node change s.world (StopsNone s.world) tt
    (λ message. handed-none s.site s.world node (Checkpointing message)))
  where
    by : (done : Option Done) → StopsNone s.world done → Stays s (after_any s done)
    by None none = record { site = refl; stopped = refl }
    by (Some done) none = record { site = refl; stopped = none }
handed-stay node (Reporting from set) s = record { site = refl; stopped = refl }
handed-stay node (Declaring processor) s = marks-stay node processor s

words-stay : (node : ℕ) (words : Option (List ℤ)) (s : Underway) → Stays s (handed_words node words s)
words-stay node None s = record { site = refl; stopped = refl }
words-stay node (Some words) s = by (understood s.site words)
  where
    by : (told : Option NodeMessage) → Stays s (handed_any node told s)
    by None = record { site = refl; stopped = refl }
    by (Some told) = handed-stay node told s

deliver-goes : (event : Event) (name : BusName) (s : Underway) (packet : Option Packet)
    → Goes event s (deliver_acted name s packet)
deliver-goes event name s None = skips
deliver-goes event name s (Some p) = by (comes_in p s)
  where
    by : (test : Bool) → Goes event s (Makes (if test then received name p s else s))
    by true =
        let stay = words-stay p.receiver (message_at_end p (end_at s.wires.nodes p.receiver p.sender))
        (record s { wires = midst_after_arrival name p s.wires }) in
        stops_none stay.site stay.stopped
    by false = stops_none refl refl

fail-goes : (event : Event) (processor : ℕ) (s : Underway)
    → Goes event s (fail_acted processor s (slice_get s.world.stopped processor))
fail-goes event processor s = by (slice_get s.world.stopped processor) refl
  where
    first : (whole : Bool) → is_whole s.world ≡ whole
        → Goes event s (stop_acted processor s (stop_if processor s.world whole))
    first true e = stops_one processor refl e refl
    first false e = would_harm (SecondStop processor)

    by : (stopped : Option Bool) → slice_get s.world.stopped processor ≡ stopped
        → Goes event s (fail_acted processor s stopped)
    by None e = skips
    by (Some true) e = skips
    by (Some false) e = rw e (first (is_whole s.world) refl)

reload-goes : (processor : ℕ) (s : Underway)
    → Goes (Reload processor) s (reload_acted processor s (reload_done s.site processor s.world))
reload-goes processor s = by (slice_get s.world.stopped processor)
  where
    may : (times : ℕ) (test : Bool)
        → Goes (Reload processor) s (reload_acted processor s (reload_if s.site processor times s.world test))
    may times true = starts_one processor refl refl refl
    may times false = skips

    counted : (times : Option ℕ)
        → Goes (Reload processor) s (reload_acted processor s (reload_counted s.site processor s.world times))
    counted None = skips
    counted (Some times) = may times (is_marked_by_all s.world processor && nat_lt times most_reloads)

    by : (stopped : Option Bool)
        → Goes (Reload processor) s (reload_acted processor s (reload_where s.site processor s.world stopped))
    by None = skips
    by (Some true) = counted (slice_get s.world.reloads processor)
    by (Some false) = skips

tick-goes : (event : Event) (node : ℕ) (s : Underway) → Goes event s (tick_acted node s)
tick-goes event node s = by (is_running s.world.stopped node)
  where
    line : (midst : Midst) (line : Option ℕ) → Goes event s (pulls node (record s { wires = midst }) line)
    line midst None = stops_none refl refl
    line midst (Some processor) = at (slice_get s.world.stopped processor) refl
      where
        first : (whole : Bool) → is_whole s.world ≡ whole
            → Goes event s (pulled_running node processor (record s { wires = midst })
            (stop_if processor s.world whole))
        first true e =
            let stay = marks-stay node processor (record s
            { world = stopped_world processor s.world; wires = midst }) in
            stops_one processor stay.site e stay.stopped
        first false e = would_harm (SecondStop processor)

        at : (stopped : Option Bool) → slice_get s.world.stopped processor ≡ stopped
            → Goes event s (pulled node processor (record s { wires = midst }) stopped)
        at None e = stops_none refl refl
        at (Some true) e =
            let stay = marks-stay node processor (record s { wires = midst }) in stops_none stay.site stay.stopped
        at (Some false) e = rw e (first (is_whole s.world) refl)

    by : (test : Bool) → Goes event s (if test then pulls_its node
        (record s { wires = midst_after_tick s.site.processors node s.wires }) else Skips)
    by true = line (midst_after_tick s.site.processors node s.wires)
        (line_of node (record s { wires = midst_after_tick s.site.processors node s.wires }))
    by false = skips

acted-goes : (s : Packeted) (event : Event) → Goes event (underway s) (acted s event)
acted-goes s (Run number) =
    made-goes (Run number) (underway s) (run_done s.site number s.world) (run-none s.site s.world number)
acted-goes s (Enter number) =
    made-goes (Enter number) (underway s) (enter_done s.site number s.world) (enter-none s.site s.world number)
acted-goes s (Deliver bus k) =
    deliver-goes (Deliver bus k) bus (underway s) (packet_at s bus k)
acted-goes s (Lose bus k) = by (packet_at s bus k)
  where
    by : (packet : Option Packet) → Goes (Lose bus k) (underway s) (lose_acted (underway s) packet)
    by None = skips
    by (Some packet) = stops_none refl refl
acted-goes s (Repeat bus k) = by (packet_at s bus k)
  where
    by : (packet : Option Packet) → Goes (Repeat bus k) (underway s) (repeat_acted bus (underway s) packet)
    by None = skips
    by (Some packet) = stops_none refl refl
acted-goes s (Tick node) = tick-goes (Tick node) node (underway s)
acted-goes s (Fail processor) = fail-goes (Fail processor) processor (underway s)
acted-goes s (Reload processor) = reload-goes processor (underway s)
acted-goes s (Drive event) =
    drive-cases event (underway s) (Goes (Drive event) (underway s)) (λ drives. stops_none refl refl) skips
    (λ process. would_harm (DiscLoss process))

pub play-goes : (s : Packeted) (event : Event) → Goes event s (play s event)
play-goes s event = by (acted s event) (acted-goes s event)
  where
    by : (played : Played Midst) → Goes event (underway s) played
        → Goes event s (ended (taken_off event s.wires) played)
    by Skips skips = skips
    by (Would _) (would_harm harm) = would_harm harm
    by (Makes next) (stops_none same none) = stops_none same none
    by (Makes next) (stops_one processor same whole one) = stops_one processor same whole one
    by (Makes next) (starts_one processor is same one) = starts_one processor is same one

-- Over whole runs

pub played-site : {site : Site} {events : List Event} {s : Packeted} → IsPlayed site events s → s.site ≡ site
played-site played_none = refl
played-site {site = site} (played_more {s = s} {next = next} event before e) =
    subst OfSite e (by (play s event) (play-goes s event) (played-site before))
  where
    OfSite : Played Wires → Type 0
    OfSite (Makes next) = next.site ≡ site
    OfSite Skips = Unit {0}
    OfSite (Would harm) = Unit {0}

    by : (played : Played Wires) → Goes event s played → s.site ≡ site → OfSite played
    by Skips skips was = tt
    by (Would _) (would_harm harm) was = tt
    by (Makes made) (stops_none same none) was = same ∙ was
    by (Makes made) (stops_one processor same whole one) was = same ∙ was
    by (Makes made) (starts_one processor is same one) was = same ∙ was
played-site (skipped event before e) = played-site before

first-stopped : (stopped : List Bool) (processor one : ℕ) → some_has_stopped stopped ≡ false
    → slice_get (slice_set stopped processor true) one ≡ Some true → processor ≡ one
first-stopped stopped processor one none at = of (changed stopped processor true one true at)
  where
    of : Changed stopped processor true one true → processor ≡ one
    of (is_new here is) = here
    of (is_same other was) = absurd (none-stopped stopped one none was)

-- what a reload leaves stopped had stopped before
still-stopped : (stopped : List Bool) (processor one : ℕ)
    → slice_get (slice_set stopped processor false) one ≡ Some true → slice_get stopped one ≡ Some true
still-stopped stopped processor one at = of (changed stopped processor false one true at)
  where
    of : Changed stopped processor false one true → slice_get stopped one ≡ Some true
    of (is_new here is) = absurd (cc)
    of (is_same other was) = was

pub played-one : {site : Site} {events : List Event} {s : Packeted} → IsPlayed site events s → OneStops s.world
played-one {site = site} played_none =
    λ one other at there. absurd (none-stopped (boot site).stopped one (none-at-boot site.processors) at)
played-one (played_more {s = s} {next = next} event before e) =
    subst IsOne e (by (play s event) (play-goes s event) (played-one before))
  where
    IsOne : Played Wires → Type 0
    IsOne (Makes next) = OneStops next.world
    IsOne Skips = Unit {0}
    IsOne (Would harm) = Unit {0}

    by : (played : Played Wires) → Goes event s played → OneStops s.world → IsOne played
    by Skips skips was = tt
    by (Would _) (would_harm harm) was = tt
    by (Makes made) (stops_none same none) was =
        subst (λ (stopped : List Bool). (one other : ℕ) → slice_get stopped one ≡ Some true
        → slice_get stopped other ≡ Some true → one ≡ other) (sym none) was
    by (Makes made) (stops_one processor same whole one) was =
        let first = whole-runs s.world whole in
        rw one (λ a b at there. sym (first-stopped s.world.stopped processor a first at)
        ∙ first-stopped s.world.stopped processor b first there)
    by (Makes made) (starts_one processor is same one) was =
        rw one (λ a b at there. was a b (still-stopped s.world.stopped processor a at)
        (still-stopped s.world.stopped processor b there))
played-one (skipped event before e) = played-one before

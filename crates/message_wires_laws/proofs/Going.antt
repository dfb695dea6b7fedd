-- What is played leaves the site as it was, stops a processor only where none has stopped, and starts those alone that
-- are loaded again.
use Rattle.std.proofs.Common.{◌≡◌, ℕ, zero, suc, ◌+◌, ◌&&◌, Bool, true, false, not, if◌then◌else◌, List, [], ◌∷◌}
use Rattle.std.proofs.Common.{◌++◌, ap}
use Rattle.std.proofs.Common.{length, nat_lt, replicate, Option, Some, None, slice_get, slice_set, refl, sym, subst}
use Rattle.std.proofs.Common.{◌∙◌}
use Rattle.std.proofs.lemmas.List.{length-replicate, length-set}
use Rattle.std.specs.List.{list_any}
use Rattle.tal_tree.specs.declared.site.Site.{Site}
use Rattle.schedule.specs.declared.event.Event.{Event}
use Rattle.schedule.specs.declared.event.Event.TheVariants.{Run, Enter, Deliver, Lose, Repeat, Tick, Fail, Reload}
use Rattle.schedule.specs.declared.event.Event.TheVariants.{Drive}
use Rattle.world_semantics.specs.Running.{Done, run_done}
use Rattle.world_semantics.specs.World.{World, boot, is_marked_by_all, is_pair_of, is_running, is_whole}
use Rattle.world_semantics.proofs.Lists.{Changed, is_new, is_same, changed}
use Rattle.world_semantics.proofs.Roles.{both-true}
use Rattle.world_semantics.specs.Rules.{most_reloads}
use Rattle.computed_changes.specs.Entered.{enter_done}
use Rattle.computed_changes.specs.Stopped.{down_done, stop_if, reload_if, reload_counted, reload_where}
use Rattle.computed_changes.specs.Stopped.{reload_done}
use Rattle.letters.specs.Idle.{OneStops}
use Rattle.message_wires.specs.machine_states.specs.States.{Played, Makes, Skips, Would, SecondStop, DiscLoss, Harm}
use Rattle.message_wires.specs.Wires.{Sent, Wires, is_current, paid, paid_between, without_packet, wires_after_post}
use Rattle.message_wires.specs.Wires.{wires_after_posts}
use Rattle.letters.specs.Again.{sent_again}
use Rattle.letters.specs.Routes.{Letter, letters_of}
use Rattle.message_wires.specs.Play.{MachineState, made_by, after_any, state_after_handing, is_admitted, reload_played}
use Rattle.message_wires.specs.Play.{deliver_played, lose_played, repeat_played, some_has_stopped, fail_played}
use Rattle.message_wires.specs.Play.{marked_by}
use Rattle.message_wires.specs.Play.{marks_from, state_after_tick, stop_played, tick_played, packet_at, play}
use Rattle.message_wires.specs.Runs.{IsPlayed, played_none, played_more, skipped}
use Rattle.message_wires_laws.proofs.Stopping.{StopsNone, run-none, enter-none, handed-none, mark-none}
use Rattle.message_wires.specs.machine_states.proofs.Turning.{drive-cases}

-- what is sent leaves when processors were loaded
posts-before : (letters : List Letter) (wires : Wires) → (wires_after_posts letters wires).before ≡ wires.before
posts-before [] wires = refl
posts-before (letter ∷ letters) wires = posts-before letters (wires_after_post letter wires)

-- what an event makes of a state: no processor stops or starts; or one stops in a whole world; or one is loaded again
pub data Goes (s : MachineState) : Played Wires → Type 0 where
  skips : Goes s Skips
  would_harm : (harm : Harm) → Goes s (Would harm)
  stops_none : {next : MachineState} → next.site ≡ s.site → next.world.stopped ≡ s.world.stopped
      → next.wires.before ≡ s.wires.before
      → Goes s (Makes next)
  stops_one : {next : MachineState} (processor : ℕ) → next.site ≡ s.site → is_whole s.world ≡ true
      → next.world.stopped ≡ slice_set s.world.stopped processor true → next.wires.before ≡ s.wires.before
      → Goes s (Makes next)
  starts_one : {next : MachineState} (processor : ℕ) → next.site ≡ s.site
      → next.world.stopped ≡ slice_set s.world.stopped processor false
      → next.wires.before ≡ slice_set s.wires.before processor s.wires.count
      → Goes s (Makes next)

made-goes : (s : MachineState) (done : Option Done) → StopsNone s.world done → Goes s (made_by s done)
made-goes s None none = skips
made-goes s (Some done) none =
    stops_none refl none (posts-before (letters_of s.site done.world done.sendings) s.wires)

deliver-goes : (k : ℕ) (s : MachineState) (packet : Option Sent) → Goes s (deliver_played k s packet)
deliver-goes k s None = skips
deliver-goes k s (Some packet) =
    by (is_current s.wires.before packet && is_admitted (record s { wires = without_packet k s.wires }) packet.letter)
  where
    any : (done : Option Done) → StopsNone s.world done
        → Goes s (Makes (after_any (record s { wires = paid packet.number (without_packet k s.wires) }) done))
    any None none = stops_none refl refl refl
    any (Some done) none =
        stops_none refl none
        (posts-before (letters_of s.site done.world done.sendings) (paid packet.number (without_packet k s.wires)))

    by : (test : Bool) → Goes s (Makes (if test then state_after_handing packet
        (record s { wires = without_packet k s.wires }) else record s { wires = without_packet k s.wires }))
    by true = any _ (handed-none s.site s.world packet.letter.receiver packet.letter.message)
    by false = stops_none refl refl refl

fail-goes : (processor : ℕ) (s : MachineState)
    → Goes s (fail_played processor s (slice_get s.world.stopped processor))
fail-goes processor s = by (slice_get s.world.stopped processor) refl
  where
    first : (whole : Bool) → is_whole s.world ≡ whole
        → Goes s (stop_played processor s (stop_if processor s.world whole))
    first true e = stops_one processor refl e refl refl
    first false e = would_harm (SecondStop processor)

    by : (stopped : Option Bool) → slice_get s.world.stopped processor ≡ stopped
        → Goes s (fail_played processor s stopped)
    by None e = skips
    by (Some true) e = skips
    by (Some false) e = rw e (first (is_whole s.world) refl)

reload-goes : (processor : ℕ) (s : MachineState)
    → Goes s (reload_played processor s (reload_done s.site processor s.world))
reload-goes processor s = by (slice_get s.world.stopped processor)
  where
    may : (times : ℕ) (test : Bool)
        → Goes s (reload_played processor s (reload_if s.site processor times s.world test))
    may times true = starts_one processor refl refl refl
    may times false = skips

    counted : (times : Option ℕ)
        → Goes s (reload_played processor s (reload_counted s.site processor s.world times))
    counted None = skips
    counted (Some times) = may times (is_marked_by_all s.world processor && nat_lt times most_reloads)

    by : (stopped : Option Bool) → Goes s (reload_played processor s (reload_where s.site processor s.world stopped))
    by None = skips
    by (Some true) = counted (slice_get s.world.reloads processor)
    by (Some false) = skips

pub downs-none : (node processor more : ℕ) (s : MachineState)
    → ((marks_from node processor more s).site ≡ s.site)
    × ((marks_from node processor more s).world.stopped ≡ s.world.stopped)
downs-none node processor zero s = (refl, refl)
downs-none node processor (suc more) s =
    by (down_done node processor s.world) (mark-none s.site s.world node processor)
    (downs-none node (processor + 1) more)
  where
    by : (done : Option Done) → StopsNone s.world done
        → ((s : MachineState) → ((marks_from node (processor + 1) more s).site ≡ s.site)
        × ((marks_from node (processor + 1) more s).world.stopped ≡ s.world.stopped))
        → ((marks_from node (processor + 1) more (marked_by node processor s done)).site ≡ s.site)
        × ((marks_from node (processor + 1) more (marked_by node processor s done)).world.stopped ≡ s.world.stopped)
    by None none rest = rest s
    by (Some done) none rest = let later = rest (marked_by node processor s (Some done)) in (later.0, later.1 ∙ none)

downs-before : (node processor more : ℕ) (s : MachineState)
    → (marks_from node processor more s).wires.before ≡ s.wires.before
downs-before node processor zero s = refl
downs-before node processor (suc more) s =
    by (down_done node processor s.world) (downs-before node (processor + 1) more)
  where
    by : (done : Option Done)
        → ((s : MachineState) → (marks_from node (processor + 1) more s).wires.before ≡ s.wires.before)
        → (marks_from node (processor + 1) more (marked_by node processor s done)).wires.before ≡ s.wires.before
    by None rest = rest s
    by (Some done) rest =
        rest (marked_by node processor s (Some done))
        ∙ posts-before (letters_of s.site done.world
        (done.sendings ++ sent_again s.site s.world done.world node processor)) (paid_between node processor s.wires)

tick-goes : (node : ℕ) (s : MachineState) → Goes s (tick_played node s)
tick-goes node s = by (is_running s.world.stopped node)
  where
    by : (test : Bool) → Goes s (if test then Makes
        (state_after_tick node (marks_from node 0 (length s.world.stopped) s)) else Skips)
    by true =
        let marked = downs-none node 0 (length s.world.stopped) s in
        stops_none marked.0 marked.1 (downs-before node 0 (length s.world.stopped) s)
    by false = skips

pub play-goes : (s : MachineState) (event : Event) → Goes s (play s event)
play-goes s (Run number) = made-goes s (run_done s.site number s.world) (run-none s.site s.world number)
play-goes s (Enter number) = made-goes s (enter_done s.site number s.world) (enter-none s.site s.world number)
play-goes s (Deliver bus k) = deliver-goes k s (packet_at s bus k)
play-goes s (Lose bus k) = by (packet_at s bus k)
  where
    by : (packet : Option Sent) → Goes s (lose_played k s packet)
    by None = skips
    by (Some packet) = stops_none refl refl refl
play-goes s (Repeat bus k) = by (packet_at s bus k)
  where
    by : (packet : Option Sent) → Goes s (repeat_played s packet)
    by None = skips
    by (Some packet) = stops_none refl refl refl
play-goes s (Tick node) = tick-goes node s
play-goes s (Fail processor) = fail-goes processor s
play-goes s (Reload processor) = reload-goes processor s
play-goes s (Drive event) =
    drive-cases event s (Goes s) (λ drives. stops_none refl refl refl) skips (λ process. would_harm (DiscLoss process))

-- Runs

pub played-site : {site : Site} {events : List Event} {s : MachineState} → IsPlayed site events s → s.site ≡ site
played-site played_none = refl
played-site {site = site} (played_more {s = s} {next = next} event before e) =
    subst OfSite e (by (play s event) (play-goes s event) (played-site before))
  where
    OfSite : Played Wires → Type 0
    OfSite (Makes next) = next.site ≡ site
    OfSite Skips = Unit {0}
    OfSite (Would harm) = Unit {0}

    by : (played : Played Wires) → Goes s played → s.site ≡ site → OfSite played
    by Skips skips was = tt
    by (Would _) (would_harm harm) was = tt
    by (Makes made) (stops_none same none before) was = same ∙ was
    by (Makes made) (stops_one processor same whole one before) was = same ∙ was
    by (Makes made) (starts_one processor same one before) was = same ∙ was
played-site (skipped event before e) = played-site before

pub none-stopped : (stopped : List Bool) (k : ℕ) → some_has_stopped stopped ≡ false → slice_get stopped k ≡ Some true
    → ⊥
none-stopped [] k none at = cc
none-stopped (true ∷ stopped) k none at = cc
none-stopped (false ∷ stopped) zero none at = cc
none-stopped (false ∷ stopped) (suc k) none at = none-stopped stopped k none at

first-stopped : (stopped : List Bool) (processor one : ℕ) → some_has_stopped stopped ≡ false
    → slice_get (slice_set stopped processor true) one ≡ Some true → processor ≡ one
first-stopped stopped processor one none at = of (changed stopped processor true one true at)
  where
    of : Changed stopped processor true one true → processor ≡ one
    of (is_new here is) = here
    of (is_same other was) = absurd (none-stopped stopped one none was)

still-stopped : (stopped : List Bool) (processor one : ℕ)
    → slice_get (slice_set stopped processor false) one ≡ Some true
    → slice_get stopped one ≡ Some true
still-stopped stopped processor one at = of (changed stopped processor false one true at)
  where
    of : Changed stopped processor false one true → slice_get stopped one ≡ Some true
    of (is_new here is) = absurd (cc)
    of (is_same other was) = was

-- none has stopped in a whole world
pub whole-runs : (w : World) → is_whole w ≡ true → some_has_stopped w.stopped ≡ false
whole-runs w whole =
    not-true (some_has_stopped w.stopped) (both-true (not (list_any (λ stopped. stopped) w.stopped))
    (not (list_any (λ pair. not (is_pair_of pair.first.role pair.second.role)) w.processes)) whole).0
  where
    not-true : (b : Bool) → not b ≡ true → b ≡ false
    not-true true e = absurd (cc)
    not-true false e = refl

pub none-at-boot : (processors : ℕ) → some_has_stopped (replicate processors false) ≡ false
none-at-boot zero = refl
none-at-boot (suc processors) = none-at-boot processors

pub played-one : {site : Site} {events : List Event} {s : MachineState} → IsPlayed site events s → OneStops s.world
played-one {site = site} played_none =
    λ one other at there. absurd (none-stopped (boot site).stopped one (none-at-boot site.processors) at)
played-one (played_more {s = s} {next = next} event before e) =
    subst IsOne e (by (play s event) (play-goes s event) (played-one before))
  where
    IsOne : Played Wires → Type 0
    IsOne (Makes next) = OneStops next.world
    IsOne Skips = Unit {0}
    IsOne (Would harm) = Unit {0}

    by : (played : Played Wires) → Goes s played → OneStops s.world → IsOne played
    by Skips skips was = tt
    by (Would _) (would_harm harm) was = tt
    by (Makes made) (stops_none same none before) was = rw none was
    by (Makes made) (stops_one processor same whole one before) was =
        let first = whole-runs s.world whole in
        rw one (λ a b at there. sym (first-stopped s.world.stopped processor a first at)
        ∙ first-stopped s.world.stopped processor b first there)
    by (Makes made) (starts_one processor same one before) was =
        rw one (λ a b at there. was a b (still-stopped s.world.stopped processor a at)
        (still-stopped s.world.stopped processor b there))
played-one (skipped event before e) = played-one before

-- that a processor was loaded again is noted of each one
pub played-before : {site : Site} {events : List Event} {s : MachineState} → IsPlayed site events s
    → length s.wires.before ≡ length s.world.stopped
played-before {site = site} played_none =
    length-replicate site.processors 0 ∙ sym (length-replicate site.processors false)
played-before (played_more {s = s} {next = next} event before e) =
    subst AreNoted e (by (play s event) (play-goes s event) (played-before before))
  where
    AreNoted : Played Wires → Type 0
    AreNoted (Makes next) = length next.wires.before ≡ length next.world.stopped
    AreNoted Skips = Unit {0}
    AreNoted (Would harm) = Unit {0}

    by : (played : Played Wires) → Goes s played → length s.wires.before ≡ length s.world.stopped → AreNoted played
    by Skips skips was = tt
    by (Would _) (would_harm harm) was = tt
    by (Makes made) (stops_none same none loads) was = ap length loads ∙ was ∙ sym (ap length none)
    by (Makes made) (stops_one processor same whole one loads) was =
        ap length loads ∙ was ∙ sym (length-set s.world.stopped processor true) ∙ sym (ap length one)
    by (Makes made) (starts_one processor same one loads) was =
        ap length loads ∙ length-set s.wires.before processor s.wires.count ∙ was
        ∙ sym (length-set s.world.stopped processor false) ∙ sym (ap length one)
played-before (skipped event before e) = played-before before

-- In a whole world each event leaves it whole, but for one that stops a processor.
use Rattle.std.proofs.Common.{◌≡◌, ◌⊎◌, inl, inr, ℕ, ℤ, Bool, true, false, if◌then◌else◌, List, Option, Some, None}
use Rattle.std.proofs.Common.{slice_get, refl, ap, sym, subst, ◌∙◌}
use Rattle.schedule.specs.declared.event.Event.{Event}
use Rattle.schedule.specs.declared.event.Event.TheVariants.{Run, Enter, Deliver, Lose, Repeat, Tick, Fail, Reload}
use Rattle.schedule.specs.declared.event.Event.TheVariants.{Drive}
use Rattle.schedule.specs.declared.bus_name.BusName.{BusName}
use Rattle.packet_words.specs.declared.packet.Packet.{Packet}
use Rattle.world_semantics.specs.Messages.{Checkpointing}
use Rattle.world_semantics.specs.Running.{Done, run_done}
use Rattle.world_semantics.specs.World.{is_running, is_whole, runs_by}
use Rattle.world_semantics.proofs.Lists.{set-there}
use Rattle.computed_changes.specs.Changed.{change_done}
use Rattle.computed_changes.specs.Entered.{enter_done}
use Rattle.computed_changes.specs.Handed.{handed_done}
use Rattle.computed_changes.specs.Stopped.{reload_done, stop_if, stopped_world}
use Rattle.computed_changes.proofs.Changed.{change-each}
use Rattle.single_stops.specs.message_wires_laws.proofs.Going.{none-stopped, whole-runs}
use Rattle.single_stops.specs.message_wires_laws.proofs.Whole.{StaysWhole, enter-whole, handed-whole, none-marked}
use Rattle.single_stops.specs.message_wires_laws.proofs.Whole.{none-reloaded, run-whole}
use Rattle.machine_states.specs.States.{Played, Makes, Skips, Would}
use Rattle.machine_states.proofs.Turning.{drive-cases}
use Rattle.message_layout.specs.Messages.{NodeMessage, Carrying, Changing, Reporting, Declaring}
use Rattle.message_layout.specs.Reading.{understood}
use Rattle.packet_wires.specs.Nodes.{end_at}
use Rattle.packet_wires.specs.Play.{Packeted, Underway, acted, after_any, underway, comes_in, message_at_end}
use Rattle.packet_wires.specs.Play.{deliver_acted}
use Rattle.packet_wires.specs.Play.{ended, handed, handed_any, handed_words, line_of, lose_acted, made_by, marked_by}
use Rattle.packet_wires.specs.Play.{marks, packet_at, play, pulled, pulled_running, pulls, pulls_its}
use Rattle.packet_wires.specs.Play.{received, reload_acted, repeat_acted, taken_off, tick_acted}
use Rattle.packet_wires.specs.Wires.{Midst, midst_after_arrival, midst_after_tick}
use Rattle.packet_rounds.specs.packets_laws.proofs.Going.{marks-stay}

-- a processor that ran has stopped
abbrev pub StopsWho : List Bool → List Bool → Type 0
StopsWho before after =
    (p : ℕ) × (slice_get before p ≡ Some false) × (is_running after p ≡ false)

-- of a state in the midst of an event
abbrev KeepsWhole : Underway → Underway → Type 0
KeepsWhole s after = is_whole s.world ≡ true → is_whole after.world ≡ true

any-whole : (s : Underway) (done : Option Done) → StaysWhole s.world done → KeepsWhole s (after_any s done)
any-whole s None stays = λ whole. whole
any-whole s (Some done) stays = stays

-- nobody is marked
marks-whole : (node processor : ℕ) (s : Underway) → KeepsWhole s (marks node processor s)
marks-whole node processor s whole =
    ap (λ done. is_whole (marked_by node processor s done).world) (none-marked s.site s.world node processor whole)
    ∙ whole

handed-keeps : (node : ℕ) (told : NodeMessage) (s : Underway) → KeepsWhole s (handed node told s)
handed-keeps node (Carrying message) s =
    any-whole s (handed_done s.site node message s.world) (handed-whole s.site s.world node message)
handed-keeps node (Changing change) s =
    any-whole s (change_done s.site node change s.world)
    (change-each s.site node change s.world (StaysWhole s.world) tt
    (λ message. handed-whole s.site s.world node (Checkpointing message)))
handed-keeps node (Reporting from silent) s = λ whole. whole
handed-keeps node (Declaring processor) s = marks-whole node processor s

words-keep : (node : ℕ) (words : Option (List ℤ)) (s : Underway) → KeepsWhole s (handed_words node words s)
words-keep node None s = λ whole. whole
words-keep node (Some words) s = by (understood s.site words)
  where
    by : (told : Option NodeMessage) → KeepsWhole s (handed_any node told s)
    by None = λ whole. whole
    by (Some told) = handed-keeps node told s

-- what an event makes of a whole world is whole, or it has stopped a processor
abbrev WholeIf : Underway → Played Midst → Type 0
WholeIf s (Makes after) =
    is_whole s.world ≡ true → (is_whole after.world ≡ true) ⊎ StopsWho s.world.stopped after.world.stopped
WholeIf s Skips = Unit {0}
WholeIf s (Would harm) = Unit {0}

made-whole : (s : Underway) (done : Option Done) → StaysWhole s.world done → WholeIf s (made_by s done)
made-whole s None stays = tt
made-whole s (Some done) stays = λ whole. inl (stays whole)

deliver-whole : (name : BusName) (s : Underway) (packet : Option Packet) → WholeIf s (deliver_acted name s packet)
deliver-whole name s None = tt
deliver-whole name s (Some packet) = by (comes_in packet s)
  where
    by : (test : Bool) → WholeIf s (Makes (if test then received name packet s else s))
    by true = λ whole.
        inl (words-keep packet.receiver (message_at_end packet (end_at s.wires.nodes packet.receiver packet.sender))
        (record s { wires = midst_after_arrival name packet s.wires }) whole)
    by false = λ whole. inl whole

-- a line that is pulled stops its processor, or nobody where that one has stopped
tick-whole : (node : ℕ) (s : Underway) → WholeIf s (tick_acted node s)
tick-whole node s = by (is_running s.world.stopped node)
  where
    line : (midst : Midst) (line : Option ℕ) → WholeIf s (pulls node (record s { wires = midst }) line)
    line midst None = λ whole. inl whole
    line midst (Some k) = at (slice_get s.world.stopped k) refl
      where
        first : slice_get s.world.stopped k ≡ Some false → (whole : Bool)
            → WholeIf s (pulled_running node k (record s { wires = midst }) (stop_if k s.world whole))
        first there false = tt
        first there true = λ whole.
            (let stay = marks-stay node k (record s { world = stopped_world k s.world; wires = midst }) in
            inr (
              k,
              there,
              ap (λ stopped. runs_by k (slice_get stopped k)) stay.stopped
                  ∙ ap (runs_by k) (set-there s.world.stopped k false true there),
            ))

        at : (one : Option Bool) → slice_get s.world.stopped k ≡ one
            → WholeIf s (pulled node k (record s { wires = midst }) one)
        at None there = λ whole. inl whole
        at (Some true) there = λ whole. absurd (none-stopped s.world.stopped k (whole-runs s.world whole) there)
        at (Some false) there = rw there (first there (is_whole s.world))

    by : (test : Bool) → WholeIf s (if test then pulls_its node
        (record s { wires = midst_after_tick s.site.processors node s.wires }) else Skips)
    by true = line (midst_after_tick s.site.processors node s.wires)
        (line_of node (record s { wires = midst_after_tick s.site.processors node s.wires }))
    by false = tt

-- nobody is loaded again
reload-whole : (processor : ℕ) (s : Underway) → WholeIf s (reload_acted processor s (reload_done s.site processor
    s.world))
reload-whole processor s = by (reload_done s.site processor s.world) refl
  where
    by : (done : Option Done) → reload_done s.site processor s.world ≡ done → WholeIf s (reload_acted processor s done)
    by None is = tt
    by (Some done) is = λ whole.
        (let none = sym (none-reloaded s.site s.world processor whole) ∙ is in absurd (cc))

acted-whole : (s : Packeted) (event : Event) → ((processor : ℕ) → event ≡ Fail processor → ⊥)
    → WholeIf (underway s) (acted s event)
acted-whole s (Run number) calm = made-whole (underway s) (run_done s.site number s.world)
    (run-whole s.site s.world number)
acted-whole s (Enter number) calm = made-whole (underway s) (enter_done s.site number s.world)
    (enter-whole s.site s.world number)
acted-whole s (Deliver bus k) calm = deliver-whole bus (underway s) (packet_at s bus k)
acted-whole s (Lose bus k) calm = by (packet_at s bus k)
  where
    by : (packet : Option Packet) → WholeIf (underway s) (lose_acted (underway s) packet)
    by None = tt
    by (Some packet) = λ whole. inl whole
acted-whole s (Repeat bus k) calm = by (packet_at s bus k)
  where
    by : (packet : Option Packet) → WholeIf (underway s) (repeat_acted bus (underway s) packet)
    by None = tt
    by (Some packet) = λ whole. inl whole
acted-whole s (Tick node) calm = tick-whole node (underway s)
acted-whole s (Fail processor) calm = absurd (calm processor refl)
acted-whole s (Reload processor) calm = reload-whole processor (underway s)
acted-whole s (Drive event) calm =
    drive-cases event (underway s) (WholeIf (underway s)) (λ drives whole. inl whole) tt (λ process. tt)

pub play-whole : (s : Packeted) (event : Event) (next : Packeted) → ((processor : ℕ) → event ≡ Fail processor → ⊥)
    → play s event ≡ Makes next → is_whole s.world ≡ true
    → (is_whole next.world ≡ true) ⊎ StopsWho s.world.stopped next.world.stopped
play-whole s event next calm made whole = by (acted s event) (acted-whole s event calm) made
  where
    by : (played : Played Midst) → WholeIf (underway s) played → ended (taken_off event s.wires) played ≡ Makes next
        → (is_whole next.world ≡ true) ⊎ StopsWho s.world.stopped next.world.stopped
    by (Makes after) stays made =
        let same : after.world ≡ next.world = cc in
        subst (λ w. (is_whole w ≡ true) ⊎ StopsWho s.world.stopped w.stopped) same (stays whole)
    by Skips stays made = absurd (cc)
    by (Would harm) stays made = absurd (cc)

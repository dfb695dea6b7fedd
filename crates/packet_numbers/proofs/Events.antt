-- After so many events no end has greater numbers, and each bears how often its nodes were loaded again.
use Rattle.std.proofs.Common.{◌≡◌, ◌≤◌, ◌<◌, ℕ, ◌+◌, Bool, true, false, ℤ, if◌then◌else◌, List, [], ◌∷◌, ◌++◌, length}
use Rattle.std.proofs.Common.{Option, Some, None, slice_get, slice_set, refl, sym, subst, arith, length-append}
use Rattle.std.proofs.Common.{replicate, zero, suc}
use Rattle.tal_tree.specs.declared.site.Site.{Site}
use Rattle.schedule.specs.declared.event.Event.{Event}
use Rattle.schedule.specs.declared.event.Event.TheVariants.{Run, Enter, Deliver, Lose, Repeat, Tick, Fail, Reload}
use Rattle.schedule.specs.declared.event.Event.TheVariants.{Drive}
use Rattle.schedule.specs.declared.bus_name.BusName.{BusName}
use Rattle.packet_words.specs.declared.packet.Packet.{Packet}
use Rattle.link_control.specs.Ends.{new_end}
use Rattle.alive_regroup.specs.Watching as watching
use Rattle.alive_regroup.specs.Watching.{changed_at}
use Rattle.world_semantics.specs.Messages.{Checkpointing}
use Rattle.world_semantics.specs.World.{World, is_running, is_whole}
use Rattle.world_semantics.specs.Running.{Done, run_done}
use Rattle.computed_changes.specs.Entered.{enter_done}
use Rattle.computed_changes.specs.Changed.{change_done}
use Rattle.computed_changes.specs.Handed.{handed_done}
use Rattle.computed_changes.specs.Stopped.{stop_done, stop_if, stop_where, down_done, reload_done}
use Rattle.computed_changes.proofs.Changed.{change-each}
use Rattle.letters.specs.Routes.{letters_of}
use Rattle.letters.specs.Again.{sent_again}
use Rattle.number_laws.specs.machine_states.specs.States.{Played, Makes, Skips, Would}
use Rattle.number_laws.proofs.Reloads.{CanReload, reload-cases, reloads_to}
use Rattle.site_machine.specs.message_layout.specs.Messages.{NodeMessage, Carrying, Changing, Reporting, Declaring}
use Rattle.site_machine.specs.message_layout.specs.Reading.{understood}
use Rattle.site_machine.specs.packet_wires.specs.Nodes.{Node, all_nodes, end_at, never_reloaded, node_at_boot}
use Rattle.site_machine.specs.packet_wires.specs.Nodes.{nodes_at_boot}
use Rattle.site_machine.specs.packet_wires.specs.Parcels.{parcels_of}
use Rattle.site_machine.specs.packet_wires.specs.Wires.{Wires, Midst, midst_after_arrival, midst_after_tick}
use Rattle.site_machine.specs.packet_wires.specs.Wires.{cut_off}
use Rattle.site_machine.specs.packet_wires.specs.Play.{Packeted, Underway, underway, after_done, made_by, after_any}
use Rattle.site_machine.specs.packet_wires.specs.Play.{marked_by}
use Rattle.site_machine.specs.packet_wires.specs.Play.{marks, handed, handed_any, handed_words, message_at_end}
use Rattle.site_machine.specs.packet_wires.specs.Play.{received}
use Rattle.site_machine.specs.packet_wires.specs.Play.{deliver_acted}
use Rattle.site_machine.specs.packet_wires.specs.Play.{lose_acted, repeat_acted, stop_acted, fail_acted, reload_acted}
use Rattle.site_machine.specs.packet_wires.specs.Play.{comes_in}
use Rattle.site_machine.specs.packet_wires.specs.Play.{marks_and_declares, pulled_running, pulled, pulls, line_of}
use Rattle.site_machine.specs.packet_wires.specs.Play.{pulls_its, tick_acted}
use Rattle.site_machine.specs.packet_wires.specs.Play.{packet_at, acted, taken_off, ended, play}
use Rattle.site_machine.specs.packet_wires.specs.Runs.{IsPlayed, played_none, played_more, skipped}
use Rattle.site_machine.specs.Needs.{AllBearReloads, HaveNumbersLeft, times_loaded}
use Rattle.packet_numbers.proofs.Ends.{RestsAt, OfEnds, rest-goes, goes-rest, AllGo, learns-go}
use Rattle.packet_numbers.proofs.Ends.{arrived-goes, all-posted-go, ticked-goes, cut-off-goes, declares-go}
use Rattle.packet_numbers.proofs.Ends.{loaded-all-rest}
use Rattle.packet_numbers.proofs.Loading.{LoadsNone, run-none, enter-none, handed-none, mark-none}
use Rattle.number_laws.specs.machine_states.proofs.Turning.{drive-cases}
use Rattle.world_semantics.proofs.Lists.{mapped}

-- Parts of an event

-- a stop loads nothing again
stop-none : (w : World) (processor : ℕ) → LoadsNone w (stop_done processor w)
stop-none w processor = by (slice_get w.stopped processor)
  where
    whole : (test : Bool) → LoadsNone w (stop_if processor w test)
    whole true = refl
    whole false = tt

    by : (stopped : Option Bool) → LoadsNone w (stop_where processor w stopped)
    by None = tt
    by (Some true) = tt
    by (Some false) = whole (is_whole w)

module _ (n : ℕ) where
  abbrev Goes : Underway → Type 0
  Goes s = AllGo n s.world.reloads s.wires.nodes

  abbrev AnyGoes : Played Midst → Type 0
  AnyGoes (Makes s) = Goes s
  AnyGoes Skips = Unit {0}
  AnyGoes (Would harm) = Unit {0}

  -- a world in which each processor was loaded again as often
  same-goes : (s : Underway) (done : Done) → done.world.reloads ≡ s.world.reloads → Goes s
      → AllGo n done.world.reloads s.wires.nodes
  same-goes s done same all = subst (λ reloads. AllGo n reloads s.wires.nodes) (sym same) all

  done-goes : (s : Underway) (done : Done) → done.world.reloads ≡ s.world.reloads → Goes s
      → Goes (after_done s done)
  done-goes s done same all =
      all-posted-go n done.world.reloads done.world.stopped
      (parcels_of done.world (letters_of s.site done.world done.sendings)) s.wires (same-goes s done same all)

  made-goes : (s : Underway) (done : Option Done) → LoadsNone s.world done → Goes s → AnyGoes (made_by s done)
  made-goes s None none all = tt
  made-goes s (Some done) none all = done-goes s done none all

  any-goes : (s : Underway) (done : Option Done) → LoadsNone s.world done → Goes s → Goes (after_any s done)
  any-goes s None none all = all
  any-goes s (Some done) none all = done-goes s done none all

  marks-go : (node processor : ℕ) (s : Underway) → Goes s → Goes (marks node processor s)
  marks-go node processor s all = by (down_done node processor s.world) (mark-none s.site s.world node processor)
    where
      by : (done : Option Done) → LoadsNone s.world done → Goes (marked_by node processor s done)
      by None none = all
      by (Some done) none =
          all-posted-go n done.world.reloads done.world.stopped
          (parcels_of done.world
          (letters_of s.site done.world (done.sendings ++ sent_again s.site s.world done.world node processor)))
          (cut_off node processor s.wires)
          (cut-off-goes n done.world.reloads node processor s.wires (same-goes s done none all))

  handed-goes : (node : ℕ) (message : NodeMessage) (s : Underway) → Goes s → Goes (handed node message s)
  handed-goes node (Carrying message) s all =
      any-goes s (handed_done s.site node message s.world) (handed-none s.site s.world node message) all
  handed-goes node (Changing change) s all =
      any-goes s (change_done s.site node change s.world)
      (change-each s.site node change s.world (LoadsNone s.world) tt
      (λ message. handed-none s.site s.world node (Checkpointing message))) all
  handed-goes node (Reporting from silent) s all =
      learns-go n s.world.reloads node (changed_at from (watching.neighbour_after_report silent)) s.wires all
  handed-goes node (Declaring processor) s all = marks-go node processor s all

  words-go : (node : ℕ) (words : Option (List ℤ)) (s : Underway) → Goes s → Goes (handed_words node words s)
  words-go node None s all = all
  words-go node (Some words) s all = by (understood s.site words)
    where
      by : (told : Option NodeMessage) → Goes (handed_any node told s)
      by None = all
      by (Some message) = handed-goes node message s all

  declaring-goes : (node processor : ℕ) (s : Underway) → Goes s → Goes (marks_and_declares node processor s)
  declaring-goes node processor s all =
      declares-go n (marks node processor s).world.reloads (marks node processor s).site.processors node processor
      (marks node processor s).wires
      (marks-go node processor s all)

  pulls-go : (node : ℕ) (s : Underway) (line : Option ℕ) → Goes s → AnyGoes (pulls node s line)
  pulls-go node s None all = all
  pulls-go node s (Some processor) all = by (slice_get s.world.stopped processor)
    where
      first : (done : Option Done) → LoadsNone s.world done → AnyGoes (pulled_running node processor s done)
      first None none = tt
      first (Some done) none =
          declaring-goes node processor (record s { world = done.world }) (same-goes s done none all)

      by : (stopped : Option Bool) → AnyGoes (pulled node processor s stopped)
      by None = all
      by (Some true) = declaring-goes node processor s all
      by (Some false) = first (stop_done processor s.world) (stop-none s.world processor)

  -- Whole events

  module _ (s : Packeted) (rest : OfEnds (RestsAt n s.world.reloads) s.wires.nodes) where
    all : AllGo n s.world.reloads s.wires.nodes
    all x node there y e is = rest-goes n s.world.reloads e (rest x node there y e is)

    deliver-goes : (name : BusName) (packet : Option Packet) → AnyGoes (deliver_acted name (underway s) packet)
    deliver-goes name None = tt
    deliver-goes name (Some packet) = by (comes_in packet (underway s))
      where
        by : (comes : Bool) → Goes (if comes then received name packet (underway s) else underway s)
        by true =
            words-go packet.receiver (message_at_end packet (end_at s.wires.nodes packet.receiver packet.sender))
            (record (underway s) { wires = midst_after_arrival name packet (underway s).wires })
            (arrived-goes n s.world.reloads name packet (underway s).wires rest)
        by false = all

    lose-goes : (packet : Option Packet) → AnyGoes (lose_acted (underway s) packet)
    lose-goes None = tt
    lose-goes (Some packet) = all

    repeat-goes : (name : BusName) (packet : Option Packet) → AnyGoes (repeat_acted name (underway s) packet)
    repeat-goes name None = tt
    repeat-goes name (Some packet) = all

    tick-goes : (node : ℕ) → AnyGoes (tick_acted node (underway s))
    tick-goes node = by (is_running s.world.stopped node)
      where
        by : (runs : Bool) → AnyGoes (if runs then pulls_its node
            (record (underway s) { wires = midst_after_tick s.site.processors node (underway s).wires }) else Skips)
        by true =
            pulls-go node (record (underway s) { wires = midst_after_tick s.site.processors node (underway s).wires })
            (line_of node (record (underway s) { wires = midst_after_tick s.site.processors node (underway s).wires }))
            (ticked-goes n s.world.reloads s.site.processors node (underway s).wires all)
        by false = tt

    stop-goes : (processor : ℕ) (done : Option Done) → LoadsNone s.world done
        → AnyGoes (stop_acted processor (underway s) done)
    stop-goes processor None none = tt
    stop-goes processor (Some done) none = same-goes (underway s) done none all

    fail-goes : (processor : ℕ) (stopped : Option Bool) → AnyGoes (fail_acted processor (underway s) stopped)
    fail-goes processor None = tt
    fail-goes processor (Some true) = tt
    fail-goes processor (Some false) =
        stop-goes processor (stop_done processor s.world) (stop-none s.world processor)

    reload-goes : (processor : ℕ)
        → AnyGoes (reload_acted processor (underway s) (reload_done s.site processor s.world))
    reload-goes processor =
        reload-cases (λ done. AnyGoes (reload_acted processor (underway s) done)) s.site processor s.world tt of
      where
        of : (times : ℕ) → CanReload s.world processor times
            → AnyGoes (reload_acted processor (underway s) (Some (reloads_to s.site processor times s.world)))
        of times can x node there y e is =
            rest-goes n (slice_set s.world.reloads processor (times + 1)) e
            (loaded-all-rest n s.world.reloads s.site.processors processor times can.there s.wires.nodes rest x node
            there y e is)

    acted-goes : (event : Event) → AnyGoes (acted s event)
    acted-goes (Run number) =
        made-goes (underway s) (run_done s.site number s.world) (run-none s.site s.world number) all
    acted-goes (Enter terminal) =
        made-goes (underway s) (enter_done s.site terminal s.world) (enter-none s.site s.world terminal) all
    acted-goes (Deliver bus k) = deliver-goes bus (packet_at s bus k)
    acted-goes (Lose bus k) = lose-goes (packet_at s bus k)
    acted-goes (Repeat bus k) = repeat-goes bus (packet_at s bus k)
    acted-goes (Tick node) = tick-goes node
    acted-goes (Fail processor) = fail-goes processor (slice_get s.world.stopped processor)
    acted-goes (Reload processor) = reload-goes processor
    acted-goes (Drive event) = drive-cases event (underway s) AnyGoes (λ drives. all) tt (λ process. tt)

  abbrev RestsAfter : Played Wires → Type 0
  RestsAfter (Makes next) = OfEnds (RestsAt (n + 1) next.world.reloads) next.wires.nodes
  RestsAfter Skips = Unit {0}
  RestsAfter (Would harm) = Unit {0}

  ended-rests : (wires : Wires) (played : Played Midst) → AnyGoes played → RestsAfter (ended wires played)
  ended-rests wires (Makes next) goes = λ x node there y e is.
      goes-rest n next.world.reloads e (goes x node there y e is)
  ended-rests wires Skips goes = tt
  ended-rests wires (Would harm) goes = tt

  play-rests : (s : Packeted) → OfEnds (RestsAt n s.world.reloads) s.wires.nodes → (event : Event)
      → RestsAfter (play s event)
  play-rests s rest event = ended-rests (taken_off event s.wires) (acted s event) (acted-goes s rest event)

-- Runs

none-loaded : (count node : ℕ) → times_loaded (replicate count 0) node ≡ 0
none-loaded zero node = refl
none-loaded (suc count) zero = refl
none-loaded (suc count) (suc node) = none-loaded count node

boot-rests : (processors : ℕ) → OfEnds (RestsAt 0 (replicate processors 0)) (nodes_at_boot processors)
boot-rests processors x node there y e is =
    let from = mapped (node_at_boot processors) all_nodes x node there in
    let to = mapped (λ other. new_end from.0 other never_reloaded) all_nodes y e
    (subst (λ (one : Node). slice_get one.ends y ≡ Some e) from.2 is) in
    subst (RestsAt 0 (replicate processors 0)) (sym to.2) (
      omega arith,
      omega arith,
      record {
        sender = sym (none-loaded processors from.0);
        receiver = sym (none-loaded processors to.0);
      },
    )

rests-more : (n m : ℕ) (reloads : List ℕ) (nodes : List Node) → n ≤ m → OfEnds (RestsAt n reloads) nodes
    → OfEnds (RestsAt m reloads) nodes
rests-more n m reloads nodes less rest x node there y e is =
    let one = rest x node there y e is in
    let sent = one.0 in
    let came = one.1 in
    (omega (arith, sent, less), omega (arith, came, less), one.2)

pub played-rests : {site : Site} {events : List Event} {s : Packeted} → IsPlayed site events s
    → OfEnds (RestsAt (length events) s.world.reloads) s.wires.nodes
played-rests {site = site} played_none = boot-rests site.processors
played-rests (played_more {events = events} {s = s} {next = next} event before makes) =
    let count : length (events ++ event ∷ []) ≡ length events + 1 = length-append events (event ∷ []) in
    subst (λ n. OfEnds (RestsAt n next.world.reloads) next.wires.nodes) (sym count)
    (subst (RestsAfter (length events)) makes (play-rests (length events) s (played-rests before) event))
played-rests (skipped {events = events} {s = s} event before skips) =
    let count : length (events ++ event ∷ []) ≡ length events + 1 = length-append events (event ∷ []) in
    rests-more (length events) (length (events ++ event ∷ [])) s.world.reloads s.wires.nodes (omega (arith, count))
    (played-rests before)

pub left-after : {site : Site} {events : List Event} {s : Packeted} → IsPlayed site events s
    → length events < 4294967295 → HaveNumbersLeft s.wires.nodes
left-after played few x y node e there is =
    let rests = played-rests played x node there y e is in
    let sent = rests.0 in
    let came = rests.1 in
    (omega (arith, sent, few), omega (arith, came, few))

pub bear-after : {site : Site} {events : List Event} {s : Packeted} → IsPlayed site events s
    → AllBearReloads s.world.reloads s.wires.nodes
bear-after played x y node e there is = (played-rests played x node there y e is).2

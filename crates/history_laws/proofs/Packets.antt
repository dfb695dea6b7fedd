-- What an event makes of a state, and what it makes of its present.
use Rattle.std.proofs.Common.{◌≡◌, ℕ, ℤ, Bool, true, false, if◌then◌else◌, List, [], ◌∷◌, ◌++◌, slice_get, Option, Some}
use Rattle.std.proofs.Common.{None, refl, ap, ap₂, sym, ◌∙◌}
use Rattle.checkpoint_image.specs.tal_tree.specs.declared.site.Site.{Site}
use Rattle.schedule.specs.declared.event.Event.{Event}
use Rattle.schedule.specs.declared.event.Event.TheVariants.{Deliver, Drive, Enter, Fail, Lose, Reload, Repeat, Run}
use Rattle.schedule.specs.declared.event.Event.TheVariants.{Tick}
use Rattle.schedule.specs.declared.bus_name.BusName.{BusName}
use Rattle.packet_words.specs.declared.packet.Packet.{Packet}
use Rattle.schedule_loop.specs.world_semantics.specs.Messages.{Sending}
use Rattle.schedule_loop.specs.world_semantics.specs.Running.{Done, run_done}
use Rattle.schedule_loop.specs.world_semantics.specs.World.{World, is_running}
use Rattle.packet_runs.specs.packet_wires.specs.computed_changes.specs.Changed.{change_done}
use Rattle.packet_runs.specs.packet_wires.specs.computed_changes.specs.Entered.{enter_done}
use Rattle.packet_runs.specs.packet_wires.specs.computed_changes.specs.Handed.{handed_done}
use Rattle.packet_runs.specs.packet_wires.specs.computed_changes.specs.Stopped.{down_done, reload_done, stop_done}
use Rattle.packet_runs.specs.packet_wires.specs.letters.specs.Again.{sent_again}
use Rattle.packet_runs.specs.packet_wires.specs.letters.specs.Routes.{Letter, letters_of}
use Rattle.packet_runs.specs.packet_wires.specs.message_layout.specs.Messages.{Carrying, Changing, Declaring}
use Rattle.packet_runs.specs.packet_wires.specs.message_layout.specs.Messages.{NodeMessage, Reporting}
use Rattle.packet_runs.specs.packet_wires.specs.message_layout.specs.Reading.{understood}
use Rattle.schedule_loop.specs.machine_states.specs.States.{Makes, Played, Skips, Would}
use Rattle.packet_runs.specs.packet_wires.specs.Nodes.{end_at}
use Rattle.packet_runs.specs.packet_wires.specs.Parcels.{Parcel, parcels_of}
use Rattle.packet_runs.specs.packet_wires.specs.Play.{Packeted, Underway, acted, after_any, after_done, comes_in}
use Rattle.packet_runs.specs.packet_wires.specs.Play.{declared, deliver_acted, ended, fail_acted, handed, handed_any}
use Rattle.packet_runs.specs.packet_wires.specs.Play.{handed_words, line_of, lose_acted, made_by, marked_by, marks}
use Rattle.packet_runs.specs.packet_wires.specs.Play.{marks_and_declares, message_at_end, out_of, packet_at, play}
use Rattle.packet_runs.specs.packet_wires.specs.Play.{pulled, pulled_running, pulls, pulls_its, received, reload_acted}
use Rattle.packet_runs.specs.packet_wires.specs.Play.{repeat_acted, sent_by, stop_acted, taken_off, tick_acted}
use Rattle.packet_runs.specs.packet_wires.specs.Play.{underway}
use Rattle.packet_runs.specs.packet_wires.specs.Sights.{end_of, state_after}
use Rattle.packet_runs.specs.packet_wires.specs.Wires.{Midst, Wires, all_posted, cut_off, goes_over}
use Rattle.packet_runs.specs.packet_wires.specs.Wires.{loaded_again, midst_after_arrival, midst_after_tick}
use Rattle.history_laws.specs.Present.{present, present_played, present_state}
use Rattle.history_laws.proofs.Presents.{state-twice, world-twice}
use Rattle.history_laws.proofs.States.{driven-by, made-alike, world-alike}
use Rattle.history_laws.proofs.Routes.{again-present, letters-present, parcels-present}
use Rattle.history_laws.proofs.Worlds.{changed-present, down-present, enter-present, handed-present, present_changes}
use Rattle.history_laws.proofs.Worlds.{present_done, reload-present, run-present, stop-present}

-- Changes of the world

-- the parcels of what a change sent
parcels-sent : (site : Site) (w : World) (sendings : List Sending)
    → parcels_of (present w) (letters_of site (present w) sendings) ≡ parcels_of w (letters_of site w sendings)
parcels-sent site w sendings =
    ap (λ (letters : List Letter). parcels_of (present w) letters) (letters-present site w sendings)
    ∙ parcels-present w (letters_of site w sendings)

-- the present of what a change makes is what its present makes of the present
done-present : (s : Underway) (done : Done)
    → present_state (after_done s done) ≡ after_done (present_state s) (present_done done)
done-present s done =
    ap (λ (parcels : List Parcel). record s {
      world = present done.world;
      wires = all_posted done.world.stopped parcels s.wires;
    }) (sym (parcels-sent s.site done.world done.sendings))

any-done : (s : Underway) (done : Option Done)
    → present_played (made_by s done) ≡ made_by (present_state s) (present_changes done)
any-done s None = refl
any-done s (Some done) = ap (λ (next : Underway). Makes next) (done-present s done)

any-after : (s : Underway) (done : Option Done)
    → present_state (after_any s done) ≡ after_any (present_state s) (present_changes done)
any-after s None = refl
any-after s (Some done) = done-present s done

-- Marks

module _ (node processor : ℕ) where
  marked-parcels : (s : Underway) (done : Done)
      → parcels_of (present done.world) (letters_of s.site (present done.world)
      (done.sendings ++ sent_again s.site (present s.world) (present done.world) node processor))
      ≡ parcels_of done.world (letters_of s.site done.world
      (done.sendings ++ sent_again s.site s.world done.world node processor))
  marked-parcels s done =
      ap (λ (again : List Sending). parcels_of (present done.world) (letters_of s.site (present done.world)
      (done.sendings ++ again))) (again-present s.site s.world done.world node processor)
      ∙ parcels-sent s.site done.world (done.sendings ++ sent_again s.site s.world done.world node processor)

  marked-present : (s : Underway) (done : Option Done)
      → present_state (marked_by node processor s done)
      ≡ marked_by node processor (present_state s) (present_changes done)
  marked-present s None = refl
  marked-present s (Some done) =
      ap (λ (parcels : List Parcel). record s {
        world = present done.world;
        wires = all_posted done.world.stopped parcels (cut_off node processor s.wires);
      }) (sym (marked-parcels s done))

  marks-present : (s : Underway)
      → present_state (marks node processor s) ≡ present_state (marks node processor (present_state s))
  marks-present s =
      made-alike (marked_by node processor) present_state marked-present s (down_done node processor s.world)
      (down_done node processor (present s.world)) (down-present node processor s.world)

  declares-present : (s : Underway)
      → present_state (marks_and_declares node processor s)
      ≡ present_state (marks_and_declares node processor (present_state s))
  declares-present s = ap (λ (t : Underway). declared node processor t) (marks-present s)

  -- and so of states that have one present
  declares-alike : (s other : Underway) → present_state s ≡ present_state other
      → present_state (marks_and_declares node processor s) ≡ present_state (marks_and_declares node processor other)
  declares-alike s other same =
      declares-present s
      ∙ ap (λ (t : Underway). present_state (marks_and_declares node processor t)) same
      ∙ sym (declares-present other)

-- Packets that come

handed-by : (node : ℕ) (message : NodeMessage) (s : Underway)
    → present_state (handed node message s) ≡ present_state (handed node message (present_state s))
handed-by node (Carrying message) s =
    made-alike after_any present_state any-after s (handed_done s.site node message s.world)
    (handed_done s.site node message (present s.world))
    (handed-present s.site node message s.world)
handed-by node (Changing change) s =
    made-alike after_any present_state any-after s (change_done s.site node change s.world)
    (change_done s.site node change (present s.world))
    (changed-present s.site node change s.world)
handed-by node (Reporting from silent) s = sym (state-twice (handed node (Reporting from silent) s))
handed-by node (Declaring processor) s = marks-present node processor s

words-by : (node : ℕ) (words : Option (List ℤ)) (s : Underway)
    → present_state (handed_words node words s) ≡ present_state (handed_words node words (present_state s))
words-by node None s = sym (state-twice s)
words-by node (Some words) s = by (understood s.site words)
  where
    by : (message : Option NodeMessage)
        → present_state (handed_any node message s) ≡ present_state (handed_any node message (present_state s))
    by None = sym (state-twice s)
    by (Some message) = handed-by node message s

received-by : (name : BusName) (packet : Packet) (s : Underway)
    → present_state (received name packet s) ≡ present_state (received name packet (present_state s))
received-by name packet s =
    words-by packet.receiver (message_at_end packet (end_at s.wires.nodes packet.receiver packet.sender))
    (record s { wires = midst_after_arrival name packet s.wires })

delivered-by : (name : BusName) (s : Underway) (packet : Option Packet)
    → present_played (deliver_acted name s packet) ≡ present_played (deliver_acted name (present_state s) packet)
delivered-by name s None = refl
delivered-by name s (Some packet) = ap (λ (next : Underway). Makes next) (by (comes_in packet s))
  where
    by : (comes : Bool)
        → present_state (if comes then received name packet s else s)
        ≡ present_state (if comes then received name packet (present_state s) else present_state s)
    by true = received-by name packet s
    by false = sym (state-twice s)

lost-by : (s : Underway) (packet : Option Packet)
    → present_played (lose_acted s packet) ≡ present_played (lose_acted (present_state s) packet)
lost-by s None = refl
lost-by s (Some packet) = ap (λ (next : Underway). Makes next) (sym (state-twice s))

repeated-by : (name : BusName) (s : Underway) (packet : Option Packet)
    → present_played (repeat_acted name s packet) ≡ present_played (repeat_acted name (present_state s) packet)
repeated-by name s None = refl
repeated-by name s (Some packet) =
    ap (λ (w : World). Makes (record s { world = w; wires = goes_over name packet s.wires }))
    (sym (world-twice s.world))

-- Stops and ticks

stopped-by : (processor : ℕ) (s : Underway) (one other : Option Done) → present_changes one ≡ present_changes other
    → present_played (stop_acted processor s one) ≡ present_played (stop_acted processor (present_state s) other)
stopped-by processor s None None same = refl
stopped-by processor s None (Some other) same = absurd (cc)
stopped-by processor s (Some one) None same = absurd (cc)
stopped-by processor s (Some one) (Some other) same =
    ap (λ (w : World). Makes (record s { world = w })) (world-alike one other same)

failed-by : (processor : ℕ) (s : Underway) (stopped : Option Bool)
    → present_played (fail_acted processor s stopped) ≡ present_played (fail_acted processor (present_state s) stopped)
failed-by processor s None = refl
failed-by processor s (Some true) = refl
failed-by processor s (Some false) =
    stopped-by processor s (stop_done processor s.world) (stop_done processor (present s.world))
    (stop-present processor s.world)

reloaded-by : (processor : ℕ) (s : Underway) (one other : Option Done) → present_changes one ≡ present_changes other
    → present_played (reload_acted processor s one) ≡ present_played (reload_acted processor (present_state s) other)
reloaded-by processor s None None same = refl
reloaded-by processor s None (Some other) same = absurd (cc)
reloaded-by processor s (Some one) None same = absurd (cc)
reloaded-by processor s (Some one) (Some other) same =
    ap (λ (w : World). Makes (record s { world = w; wires = loaded_again s.site.processors processor s.wires }))
    (world-alike one other same)

module _ (node processor : ℕ) (s : Underway) where
  pulled-by : (one other : Option Done) → present_changes one ≡ present_changes other
      → present_played (pulled_running node processor s one)
      ≡ present_played (pulled_running node processor (present_state s) other)
  pulled-by None None same = refl
  pulled-by None (Some other) same = absurd (cc)
  pulled-by (Some one) None same = absurd (cc)
  pulled-by (Some one) (Some other) same =
      ap (λ (next : Underway). Makes next)
      (declares-alike node processor (record s { world = one.world }) (record s { world = other.world })
      (ap (λ (w : World). record s { world = w }) (world-alike one other same)))

  line-by : (stopped : Option Bool)
      → present_played (pulled node processor s stopped)
      ≡ present_played (pulled node processor (present_state s) stopped)
  line-by None = ap (λ (next : Underway). Makes next) (sym (state-twice s))
  line-by (Some true) = ap (λ (next : Underway). Makes next) (declares-present node processor s)
  line-by (Some false) =
      pulled-by (stop_done processor s.world) (stop_done processor (present s.world)) (stop-present processor s.world)

pulls-by : (node : ℕ) (s : Underway) (processor : Option ℕ)
    → present_played (pulls node s processor) ≡ present_played (pulls node (present_state s) processor)
pulls-by node s None = ap (λ (next : Underway). Makes next) (sym (state-twice s))
pulls-by node s (Some processor) = line-by node processor s (slice_get s.world.stopped processor)

ticked-by : (node : ℕ) (s : Underway)
    → present_played (tick_acted node s) ≡ present_played (tick_acted node (present_state s))
ticked-by node s = by (is_running s.world.stopped node)
  where
    ticking : Underway
    ticking = record s { wires = midst_after_tick s.site.processors node s.wires }

    by : (runs : Bool)
        → present_played (if runs then pulls_its node ticking else Skips)
        ≡ present_played (if runs then pulls_its node (present_state ticking) else Skips)
    by true = pulls-by node ticking (line_of node ticking)
    by false = refl

-- Events

acted-by : (s : Packeted) (event : Event)
    → present_played (acted s event) ≡ present_played (acted (present_state s) event)
acted-by s (Run number) =
    made-alike made_by present_played any-done (underway s) (run_done s.site number s.world)
    (run_done s.site number (present s.world))
    (run-present s.site number s.world)
acted-by s (Enter terminal) =
    made-alike made_by present_played any-done (underway s) (enter_done s.site terminal s.world)
    (enter_done s.site terminal (present s.world))
    (enter-present s.site terminal s.world)
acted-by s (Deliver bus k) = delivered-by bus (underway s) (packet_at s bus k)
acted-by s (Lose bus k) = lost-by (underway s) (packet_at s bus k)
acted-by s (Repeat bus k) = repeated-by bus (underway s) (packet_at s bus k)
acted-by s (Tick node) = ticked-by node (underway s)
acted-by s (Fail processor) = failed-by processor (underway s) (slice_get s.world.stopped processor)
acted-by s (Reload processor) =
    reloaded-by processor (underway s) (reload_done s.site processor s.world)
    (reload_done s.site processor (present s.world)) (reload-present s.site processor s.world)
acted-by s (Drive event) = driven-by event (underway s)

ended-by : (wires : Wires) (made : Played Midst) → present_played (ended wires made) ≡ ended wires (present_played made)
ended-by wires (Makes s) = refl
ended-by wires Skips = refl
ended-by wires (Would harm) = refl

pub played-present : (s : Packeted) (event : Event)
    → present_played (play s event) ≡ present_played (play (present_state s) event)
played-present s event =
    ended-by (taken_off event s.wires) (acted s event)
    ∙ ap (λ (made : Played Midst). ended (taken_off event s.wires) made) (acted-by s event)
    ∙ sym (ended-by (taken_off event s.wires) (acted (present_state s) event))

out-by : (made : Played Midst) → out_of (present_played made) ≡ out_of made
out-by (Makes s) = refl
out-by Skips = refl
out-by (Would harm) = refl

pub sent-present : (s : Packeted) (event : Event) → sent_by s event ≡ sent_by (present_state s) event
sent-present s event =
    sym (out-by (acted s event)) ∙ ap (λ (made : Played Midst). out_of made) (acted-by s event)
    ∙ out-by (acted (present_state s) event)

pub played-alike : (s other : Packeted) (event : Event) → present_state s ≡ present_state other
    → present_played (play s event) ≡ present_played (play other event)
played-alike s other event same =
    played-present s event ∙ ap (λ (one : Packeted). present_played (play one event)) same
    ∙ sym (played-present other event)

-- Runs

after-by : (made : Played Wires) (s : Packeted)
    → present_state (state_after made s) ≡ state_after (present_played made) (present_state s)
after-by (Makes next) s = refl
after-by Skips s = refl
after-by (Would harm) s = refl

next-alike : (one two : Played Wires) (s other : Packeted) → present_played one ≡ present_played two
    → present_state s ≡ present_state other
    → present_state (state_after one s) ≡ present_state (state_after two other)
next-alike one two s other made same =
    after-by one s
    ∙ ap₂ (λ (played : Played Wires) (t : Packeted). state_after played t) made same
    ∙ sym (after-by two other)

pub ends-alike : (s other : Packeted) (events : List Event) → present_state s ≡ present_state other
    → present_state (end_of s events) ≡ present_state (end_of other events)
ends-alike s other [] same = same
ends-alike s other (event ∷ events) same =
    ends-alike (state_after (play s event) s) (state_after (play other event) other) events
    (next-alike (play s event) (play other event) s other (played-alike s other event same) same)

-- What an event over whole messages makes of a state, and what it makes of its present.
use Rattle.std.proofs.Common.{◌≡◌, ℕ, zero, suc, ◌+◌, ◌&&◌, Bool, true, false, if◌then◌else◌, List, [], ◌∷◌, ◌++◌}
use Rattle.std.proofs.Common.{length, slice_get, Option, Some, None, refl, ap, ap₂, sym, ◌∙◌}
use Rattle.schedule.specs.declared.event.Event.{Event}
use Rattle.schedule.specs.declared.event.Event.TheVariants.{Deliver, Drive, Enter, Fail, Lose, Reload, Repeat, Run}
use Rattle.schedule.specs.declared.event.Event.TheVariants.{Tick}
use Rattle.schedule_loop.specs.world_semantics.specs.Messages.{Sending}
use Rattle.schedule_loop.specs.world_semantics.specs.Running.{Done, run_done}
use Rattle.schedule_loop.specs.world_semantics.specs.World.{World, is_running}
use Rattle.packet_runs.specs.packet_wires.specs.computed_changes.specs.Entered.{enter_done}
use Rattle.packet_runs.specs.packet_wires.specs.computed_changes.specs.Handed.{handed_done}
use Rattle.packet_runs.specs.packet_wires.specs.computed_changes.specs.Stopped.{down_done, reload_done, stop_done}
use Rattle.packet_runs.specs.packet_wires.specs.letters.specs.Again.{sent_again}
use Rattle.packet_runs.specs.packet_wires.specs.letters.specs.Routes.{Letter, letters_of}
use Rattle.schedule_loop.specs.machine_states.specs.States.{Makes, Played, Skips, Would}
use Rattle.packet_runs.specs.packet_wires.specs.message_wires.specs.Examples.{end_of, state_after}
use Rattle.packet_runs.specs.packet_wires.specs.message_wires.specs.Play.{MachineState, after_any, after_done}
use Rattle.packet_runs.specs.packet_wires.specs.message_wires.specs.Play.{deliver_played, fail_played, is_admitted}
use Rattle.packet_runs.specs.packet_wires.specs.message_wires.specs.Play.{lose_played, made_by, marked_by, marks_from}
use Rattle.packet_runs.specs.packet_wires.specs.message_wires.specs.Play.{packet_at, play, reload_played, repeat_played}
use Rattle.packet_runs.specs.packet_wires.specs.message_wires.specs.Play.{state_after_handing, state_after_receiving}
use Rattle.packet_runs.specs.packet_wires.specs.message_wires.specs.Play.{state_after_tick, stop_played, tick_played}
use Rattle.packet_runs.specs.packet_wires.specs.message_wires.specs.Wires.{Sent, Wires, is_current, paid, paid_between}
use Rattle.packet_runs.specs.packet_wires.specs.message_wires.specs.Wires.{repeated_packet, wires_after_posts}
use Rattle.packet_runs.specs.packet_wires.specs.message_wires.specs.Wires.{wires_after_reload, without_packet}
use Rattle.history_laws.specs.Present.{present, present_played, present_state}
use Rattle.history_laws.proofs.Presents.{state-twice, world-twice}
use Rattle.history_laws.proofs.Routes.{again-present, letters-present}
use Rattle.history_laws.proofs.States.{driven-by, made-alike, world-alike}
use Rattle.history_laws.proofs.Worlds.{down-present, enter-present, handed-present, present_changes, present_done}
use Rattle.history_laws.proofs.Worlds.{reload-present, run-present, stop-present}

-- Changes of the world

-- the present of what a change makes is what its present makes of the present
done-present : (s : MachineState) (done : Done)
    → present_state (after_done s done) ≡ after_done (present_state s) (present_done done)
done-present s done =
    ap (λ (letters : List Letter). record s {
      world = present done.world;
      wires = wires_after_posts letters s.wires;
    }) (sym (letters-present s.site done.world done.sendings))

any-done : (s : MachineState) (done : Option Done)
    → present_played (made_by s done) ≡ made_by (present_state s) (present_changes done)
any-done s None = refl
any-done s (Some done) = ap (λ (next : MachineState). Makes next) (done-present s done)

any-after : (s : MachineState) (done : Option Done)
    → present_state (after_any s done) ≡ after_any (present_state s) (present_changes done)
any-after s None = refl
any-after s (Some done) = done-present s done

-- Marks

module _ (node processor : ℕ) where
  marked-letters : (s : MachineState) (done : Done)
      → letters_of s.site (present done.world)
      (done.sendings ++ sent_again s.site (present s.world) (present done.world) node processor)
      ≡ letters_of s.site done.world (done.sendings ++ sent_again s.site s.world done.world node processor)
  marked-letters s done =
      ap (λ (again : List Sending). letters_of s.site (present done.world) (done.sendings ++ again))
      (again-present s.site s.world done.world node processor)
      ∙ letters-present s.site done.world (done.sendings ++ sent_again s.site s.world done.world node processor)

  marked-present : (s : MachineState) (done : Option Done)
      → present_state (marked_by node processor s done)
      ≡ marked_by node processor (present_state s) (present_changes done)
  marked-present s None = refl
  marked-present s (Some done) =
      ap (λ (letters : List Letter). record s {
        world = present done.world;
        wires = wires_after_posts letters (paid_between node processor s.wires);
      }) (sym (marked-letters s done))

  marks-present : (s : MachineState)
      → present_state (marked_by node processor s (down_done node processor s.world))
      ≡ present_state (marked_by node processor (present_state s) (down_done node processor (present s.world)))
  marks-present s =
      made-alike (marked_by node processor) present_state marked-present s (down_done node processor s.world)
      (down_done node processor (present s.world)) (down-present node processor s.world)

marks-by : (node processor count : ℕ) (s : MachineState)
    → present_state (marks_from node processor count s)
    ≡ present_state (marks_from node processor count (present_state s))
marks-by node processor zero s = sym (state-twice s)
marks-by node processor (suc more) s =
    marks-by node (processor + 1) more (marked_by node processor s (down_done node processor s.world))
    ∙ ap (λ (t : MachineState). present_state (marks_from node (processor + 1) more t)) (marks-present node processor s)
    ∙ sym
    (marks-by node (processor + 1) more
    (marked_by node processor (present_state s) (down_done node processor (present s.world))))

-- Packets

received-by : (packet : Sent) (s : MachineState)
    → present_state (state_after_receiving packet s) ≡ present_state (state_after_receiving packet (present_state s))
received-by packet s = by (is_current s.wires.before packet && is_admitted s packet.letter)
  where
    by : (comes : Bool)
        → present_state (if comes then state_after_handing packet s else s)
        ≡ present_state (if comes then state_after_handing packet (present_state s) else present_state s)
    by true =
        made-alike after_any present_state any-after (record s { wires = paid packet.number s.wires })
        (handed_done s.site packet.letter.receiver packet.letter.message s.world)
        (handed_done s.site packet.letter.receiver packet.letter.message (present s.world))
        (handed-present s.site packet.letter.receiver packet.letter.message s.world)
    by false = sym (state-twice s)

delivered-by : (k : ℕ) (s : MachineState) (packet : Option Sent)
    → present_played (deliver_played k s packet) ≡ present_played (deliver_played k (present_state s) packet)
delivered-by k s None = refl
delivered-by k s (Some packet) =
    ap (λ (next : MachineState). Makes next) (received-by packet (record s { wires = without_packet k s.wires }))

lost-by : (k : ℕ) (s : MachineState) (packet : Option Sent)
    → present_played (lose_played k s packet) ≡ present_played (lose_played k (present_state s) packet)
lost-by k s None = refl
lost-by k s (Some packet) =
    ap (λ (w : World). Makes (record s { world = w; wires = without_packet k s.wires })) (sym (world-twice s.world))

repeated-by : (s : MachineState) (packet : Option Sent)
    → present_played (repeat_played s packet) ≡ present_played (repeat_played (present_state s) packet)
repeated-by s None = refl
repeated-by s (Some packet) =
    ap (λ (w : World). Makes (record s { world = w; wires = repeated_packet packet s.wires }))
    (sym (world-twice s.world))

-- Stops and ticks

stopped-by : (processor : ℕ) (s : MachineState) (one other : Option Done) → present_changes one ≡ present_changes other
    → present_played (stop_played processor s one) ≡ present_played (stop_played processor (present_state s) other)
stopped-by processor s None None same = refl
stopped-by processor s None (Some other) same = absurd (cc)
stopped-by processor s (Some one) None same = absurd (cc)
stopped-by processor s (Some one) (Some other) same =
    made-alike made_by present_played any-done s (Some one) (Some other) same

failed-by : (processor : ℕ) (s : MachineState) (stopped : Option Bool)
    → present_played (fail_played processor s stopped)
    ≡ present_played (fail_played processor (present_state s) stopped)
failed-by processor s None = refl
failed-by processor s (Some true) = refl
failed-by processor s (Some false) =
    stopped-by processor s (stop_done processor s.world) (stop_done processor (present s.world))
    (stop-present processor s.world)

reloaded-by : (processor : ℕ) (s : MachineState) (one other : Option Done)
    → present_changes one ≡ present_changes other
    → present_played (reload_played processor s one) ≡ present_played (reload_played processor (present_state s) other)
reloaded-by processor s None None same = refl
reloaded-by processor s None (Some other) same = absurd (cc)
reloaded-by processor s (Some one) None same = absurd (cc)
reloaded-by processor s (Some one) (Some other) same =
    ap (λ (w : World). Makes (record s { world = w; wires = wires_after_reload processor s.wires }))
    (world-alike one other same)

ticked-by : (node : ℕ) (s : MachineState)
    → present_played (tick_played node s) ≡ present_played (tick_played node (present_state s))
ticked-by node s = by (is_running s.world.stopped node)
  where
    by : (runs : Bool)
        → present_played (if runs then Makes
        (state_after_tick node (marks_from node 0 (length s.world.stopped) s)) else Skips)
        ≡ present_played (if runs then Makes
        (state_after_tick node (marks_from node 0 (length s.world.stopped) (present_state s))) else Skips)
    by true =
        ap (λ (next : MachineState). Makes (state_after_tick node next))
        (marks-by node 0 (length s.world.stopped) s)
    by false = refl

-- Events

pub played-present : (s : MachineState) (event : Event)
    → present_played (play s event) ≡ present_played (play (present_state s) event)
played-present s (Run number) =
    made-alike made_by present_played any-done s (run_done s.site number s.world)
    (run_done s.site number (present s.world))
    (run-present s.site number s.world)
played-present s (Enter terminal) =
    made-alike made_by present_played any-done s (enter_done s.site terminal s.world)
    (enter_done s.site terminal (present s.world))
    (enter-present s.site terminal s.world)
played-present s (Deliver bus k) = delivered-by k s (packet_at s bus k)
played-present s (Lose bus k) = lost-by k s (packet_at s bus k)
played-present s (Repeat bus k) = repeated-by s (packet_at s bus k)
played-present s (Tick node) = ticked-by node s
played-present s (Fail processor) = failed-by processor s (slice_get s.world.stopped processor)
played-present s (Reload processor) =
    reloaded-by processor s (reload_done s.site processor s.world) (reload_done s.site processor (present s.world))
    (reload-present s.site processor s.world)
played-present s (Drive event) = driven-by event s

pub played-alike : (s other : MachineState) (event : Event) → present_state s ≡ present_state other
    → present_played (play s event) ≡ present_played (play other event)
played-alike s other event same =
    played-present s event ∙ ap (λ (one : MachineState). present_played (play one event)) same
    ∙ sym (played-present other event)

-- Runs

after-by : (made : Played Wires) (s : MachineState)
    → present_state (state_after made s) ≡ state_after (present_played made) (present_state s)
after-by (Makes next) s = refl
after-by Skips s = refl
after-by (Would harm) s = refl

next-alike : (one two : Played Wires) (s other : MachineState) → present_played one ≡ present_played two
    → present_state s ≡ present_state other
    → present_state (state_after one s) ≡ present_state (state_after two other)
next-alike one two s other made same =
    after-by one s
    ∙ ap₂ (λ (played : Played Wires) (t : MachineState). state_after played t) made same
    ∙ sym (after-by two other)

pub ends-alike : (s other : MachineState) (events : List Event) → present_state s ≡ present_state other
    → present_state (end_of s events) ≡ present_state (end_of other events)
ends-alike s other [] same = same
ends-alike s other (event ∷ events) same =
    ends-alike (state_after (play s event) s) (state_after (play other event) other) events
    (next-alike (play s event) (play other event) s other (played-alike s other event same) same)

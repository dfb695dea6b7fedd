-- No bus has more packets than it has room for.
use Rattle.std.proofs.Common.{◌≡◌, ◌≤◌, ℕ, zero, suc, ◌+◌, Bool, true, false, if◌then◌else◌, List, [], ◌∷◌}
use Rattle.std.proofs.Common.{◌++◌, ◌&&◌, length, slice_get, take, drop, Option, Some, None, refl, subst, arith}
use Rattle.std.proofs.Common.{length-append}
use Rattle.std.specs.List.{remove}
use Rattle.std.proofs.lemmas.Bool.{ltb-true}
use Rattle.tal_tree.specs.declared.site.Site.{Site}
use Rattle.schedule.specs.declared.event.Event.{Event}
use Rattle.schedule.specs.declared.event.Event.TheVariants.{Run, Enter, Deliver, Lose, Repeat, Tick, Fail, Reload}
use Rattle.schedule.specs.declared.event.Event.TheVariants.{Drive}
use Rattle.machine_states.specs.world_semantics.specs.Running.{Done, run_done}
use Rattle.machine_states.specs.world_semantics.specs.World.{is_running}
use Rattle.pair_machine.specs.computed_changes.specs.Entered.{enter_done}
use Rattle.pair_machine.specs.computed_changes.specs.Handed.{handed_done}
use Rattle.pair_machine.specs.computed_changes.specs.Stopped.{stop_done, down_done, reload_done}
use Rattle.pair_machine.specs.letters.specs.Routes.{Letter, letters_of}
use Rattle.pair_machine.specs.letters.specs.Again.{sent_again}
use Rattle.machine_states.specs.States.{Played, Makes, Skips, Would}
use Rattle.pair_machine.specs.message_wires.specs.Wires.{Sent, Wires, has_room, put_on, wires_after_post}
use Rattle.pair_machine.specs.message_wires.specs.Wires.{wires_after_posts, paid}
use Rattle.pair_machine.specs.message_wires.specs.Wires.{paid_between, without_packet, is_due, put_again, is_current}
use Rattle.pair_machine.specs.message_wires.specs.Play.{MachineState, made_by, after_any}
use Rattle.pair_machine.specs.message_wires.specs.Play.{state_after_handing, is_admitted}
use Rattle.pair_machine.specs.message_wires.specs.Play.{deliver_played, lose_played, repeat_played, stop_played}
use Rattle.pair_machine.specs.message_wires.specs.Play.{fail_played, marked_by}
use Rattle.pair_machine.specs.message_wires.specs.Play.{marks_from, state_after_tick, tick_played, packet_at, play}
use Rattle.pair_machine.specs.message_wires.specs.Play.{reload_played}
use Rattle.pair_machine.specs.message_wires.specs.Runs.{IsPlayed, played_none, played_more, skipped}
use Rattle.machine_states.proofs.Turning.{drive-cases}

abbrev IsFew : List Sent → Type 0
IsFew bus = length bus ≤ 4096

put-few : (packet : Sent) (bus : List Sent) → IsFew bus → IsFew (put_on packet bus)
put-few packet bus few = by (has_room bus) refl
  where
    by : (room : Bool) → has_room bus ≡ room → IsFew (if room then bus ++ packet ∷ [] else bus)
    by true is =
        let low = ltb-true (length bus) 4096 is in let sum = length-append bus (packet ∷ []) in omega (arith, low, sum)
    by false is = few

posted-few : (letters : List Letter) (wires : Wires) → IsFew wires.bus → IsFew (wires_after_posts letters wires).bus
posted-few [] wires few = few
posted-few (letter ∷ letters) wires few = posted-few letters (wires_after_post letter wires) (put-few _ wires.bus few)

take-few : (k : ℕ) (xs : List Sent) → length (take k xs ++ drop (suc k) xs) ≤ length xs
take-few zero [] = omega arith
take-few zero (x ∷ xs) = omega arith
take-few (suc k) [] = omega arith
take-few (suc k) (x ∷ xs) = let rest = take-few k xs in omega (arith, rest)

remove-few : (bus : List Sent) (k : ℕ) → IsFew bus → IsFew (remove bus k)
remove-few bus k few = let less = take-few k bus in omega (arith, less, few)

again-few : (stopped : List Bool) (node : ℕ) (owed bus : List Sent) → IsFew bus
    → IsFew (put_again stopped node owed bus)
again-few stopped node [] bus few = few
again-few stopped node (one ∷ rest) bus few = again-few stopped node rest _ (by (is_due stopped node bus one))
  where
    by : (due : Bool) → IsFew (if due then put_on one bus else bus)
    by true = put-few one bus few
    by false = few

abbrev IsFewPlayed : Played Wires → Type 0
IsFewPlayed (Makes next) = IsFew next.wires.bus
IsFewPlayed Skips = Unit {0}
IsFewPlayed (Would harm) = Unit {0}

made-few : (s : MachineState) (done : Option Done) → IsFew s.wires.bus → IsFewPlayed (made_by s done)
made-few s None few = tt
made-few s (Some done) few = posted-few (letters_of s.site done.world done.sendings) s.wires few

any-few : (s : MachineState) (done : Option Done) → IsFew s.wires.bus → IsFew (after_any s done).wires.bus
any-few s None few = few
any-few s (Some done) few = posted-few (letters_of s.site done.world done.sendings) s.wires few

deliver-few : (k : ℕ) (s : MachineState) (packet : Option Sent) → IsFew s.wires.bus
    → IsFewPlayed (deliver_played k s packet)
deliver-few k s None few = tt
deliver-few k s (Some packet) few =
    by (is_current s.wires.before packet && is_admitted (record s { wires = without_packet k s.wires }) packet.letter)
  where
    by : (test : Bool)
        → IsFew (if test then state_after_handing packet (record s { wires = without_packet k s.wires }) else record s
        { wires = without_packet k s.wires }).wires.bus
    by true =
        any-few (record s { wires = paid packet.number (without_packet k s.wires) })
        (handed_done s.site packet.letter.receiver packet.letter.message s.world) (remove-few s.wires.bus k few)
    by false = remove-few s.wires.bus k few

lose-few : (k : ℕ) (s : MachineState) (packet : Option Sent) → IsFew s.wires.bus → IsFewPlayed (lose_played k s packet)
lose-few k s None few = tt
lose-few k s (Some packet) few = remove-few s.wires.bus k few

repeat-few : (s : MachineState) (packet : Option Sent) → IsFew s.wires.bus → IsFewPlayed (repeat_played s packet)
repeat-few s None few = tt
repeat-few s (Some packet) few = put-few packet s.wires.bus few

marked-few : (node processor : ℕ) (s : MachineState) (done : Option Done) → IsFew s.wires.bus
    → IsFew (marked_by node processor s done).wires.bus
marked-few node processor s None few = few
marked-few node processor s (Some done) few =
    posted-few (letters_of s.site done.world (done.sendings ++ sent_again s.site s.world done.world node processor))
    (paid_between node processor s.wires) few

marks-few : (node processor left : ℕ) (s : MachineState) → IsFew s.wires.bus
    → IsFew (marks_from node processor left s).wires.bus
marks-few node processor zero s few = few
marks-few node processor (suc left) s few =
    marks-few node (processor + 1) left _ (marked-few node processor s (down_done node processor s.world) few)

tick-few : (node : ℕ) (s : MachineState) → IsFew s.wires.bus → IsFewPlayed (tick_played node s)
tick-few node s few = by (is_running s.world.stopped node)
  where
    by : (test : Bool) → IsFewPlayed (if test then Makes
        (state_after_tick node (marks_from node 0 (length s.world.stopped) s)) else Skips)
    by true =
        let after = marks_from node 0 (length s.world.stopped) s in
        again-few after.world.stopped node after.wires.owed after.wires.bus
        (marks-few node 0 (length s.world.stopped) s few)
    by false = tt

stop-few : (processor : ℕ) (s : MachineState) (done : Option Done) → IsFew s.wires.bus
    → IsFewPlayed (stop_played processor s done)
stop-few processor s None few = tt
stop-few processor s (Some done) few = posted-few (letters_of s.site done.world done.sendings) s.wires few

fail-few : (processor : ℕ) (s : MachineState) (stopped : Option Bool) → IsFew s.wires.bus
    → IsFewPlayed (fail_played processor s stopped)
fail-few processor s (Some false) few = stop-few processor s (stop_done processor s.world) few
fail-few processor s (Some true) few = tt
fail-few processor s None few = tt

reload-few : (processor : ℕ) (s : MachineState) (done : Option Done) → IsFew s.wires.bus
    → IsFewPlayed (reload_played processor s done)
reload-few processor s None few = tt
reload-few processor s (Some done) few = few

play-few : (s : MachineState) (event : Event) → IsFew s.wires.bus → IsFewPlayed (play s event)
play-few s (Run number) few = made-few s (run_done s.site number s.world) few
play-few s (Enter number) few = made-few s (enter_done s.site number s.world) few
play-few s (Deliver bus k) few = deliver-few k s (packet_at s bus k) few
play-few s (Lose bus k) few = lose-few k s (packet_at s bus k) few
play-few s (Repeat bus k) few = repeat-few s (packet_at s bus k) few
play-few s (Tick node) few = tick-few node s few
play-few s (Fail processor) few = fail-few processor s (slice_get s.world.stopped processor) few
play-few s (Reload processor) few = reload-few processor s (reload_done s.site processor s.world) few
play-few s (Drive event) few = drive-cases event s IsFewPlayed (λ drives. few) tt (λ process. tt)

pub played-few : (site : Site) (events : List Event) (s : MachineState) → IsPlayed site events s
    → length s.wires.bus ≤ 4096
played-few site _ _ played_none = omega arith
played-few site _ _ (played_more {events = events} {s = s} event before makes) =
    subst IsFewPlayed makes (play-few s event (played-few site events s before))
played-few site _ _ (skipped {events = events} {s = s} event before skips) = played-few site events s before

-- Each event that loads no processor again goes on in the net of its state; and a reload is one step of that net.
use Rattle.std.proofs.Common.{◌≡◌, ◌≢◌, ◌≤◌, ◌⊎◌, inl, inr, ℕ, zero, suc, ◌+◌, ℤ, Bool, true, false, not, if◌then◌else◌}
use Rattle.std.proofs.Common.{List, [], ◌∷◌, ◌++◌, length, Option, Some, None, slice_get, slice_set, refl, sym, ap}
use Rattle.std.proofs.Common.{subst, ◌∙◌}
use Rattle.std.specs.List.{remove}
use Rattle.std.specs.Option.{option_to_list}
use Rattle.gd_words.specs.Members.{IsAmong}
use Rattle.gd_words.proofs.Among.{among-left, among-right, among-either}
use Rattle.schedule.specs.declared.event.Event.{Event}
use Rattle.schedule.specs.declared.event.Event.TheVariants.{Run, Enter, Deliver, Lose, Repeat, Tick, Fail, Reload}
use Rattle.schedule.specs.declared.event.Event.TheVariants.{Drive}
use Rattle.schedule.specs.declared.bus_name.BusName.{BusName}
use Rattle.schedule.specs.declared.bus_name.BusName.TheVariants as bus
use Rattle.packet_words.specs.declared.packet.Packet.{Packet}
use Rattle.alive_regroup.specs.Watching as watching
use Rattle.alive_regroup.specs.Watching.{changed_at}
use Rattle.channel_laws.specs.Net.{Net, Goes, loads, reloaded_net, ticked_net}
use Rattle.channel_laws.specs.Rounds.{Passes}
use Rattle.world_semantics.specs.Messages.{Checkpointing}
use Rattle.world_semantics.specs.Running.{Done, run_done}
use Rattle.world_semantics.specs.World.{is_running, is_whole, runs_by}
use Rattle.world_semantics.proofs.Roles.{both-true}
use Rattle.computed_changes.specs.Entered.{enter_done}
use Rattle.computed_changes.specs.Changed.{change_done}
use Rattle.computed_changes.specs.Handed.{handed_done}
use Rattle.computed_changes.proofs.Changed.{change-each}
use Rattle.computed_changes.specs.Stopped.{down_done, stopped_world, stop_if, reload_done}
use Rattle.letters.specs.Again.{sent_again}
use Rattle.letters.specs.Routes.{letters_of}
use Rattle.packet_nets.specs.packet_wires.specs.Parcels.{Parcel, parcels_of}
use Rattle.message_wires_laws.specs.machine_states.specs.States.{Played, Makes, Skips, Would}
use Rattle.message_wires_laws.proofs.Stopping.{StopsNone, run-none, enter-none, handed-none, mark-none}
use Rattle.letters_layout.specs.message_layout.specs.Messages.{NodeMessage, Carrying, Changing, Reporting, Declaring}
use Rattle.letters_layout.specs.message_layout.specs.Reading.{understood}
use Rattle.packet_nets.specs.packet_wires.specs.Nodes.{end_at}
use Rattle.packet_nets.specs.packet_wires.specs.Play.{Packeted, Underway, underway, made_by, after_any, marked_by}
use Rattle.packet_nets.specs.packet_wires.specs.Play.{marks}
use Rattle.packet_nets.specs.packet_wires.specs.Play.{handed, handed_any}
use Rattle.packet_nets.specs.packet_wires.specs.Play.{handed_words, message_at_end, received, deliver_acted, lose_acted}
use Rattle.packet_nets.specs.packet_wires.specs.Play.{repeat_acted}
use Rattle.packet_nets.specs.packet_wires.specs.Play.{fail_acted, marks_and_declares, pulled, pulls, line_of, pulls_its}
use Rattle.packet_nets.specs.packet_wires.specs.Play.{tick_acted}
use Rattle.packet_nets.specs.packet_wires.specs.Play.{packet_at, acted, taken_off, ended, out_of, play, comes_in}
use Rattle.packet_nets.specs.packet_wires.specs.Play.{is_current_at}
use Rattle.packet_nets.specs.packet_wires.specs.Play.{pulled_running, reload_acted, stop_acted}
use Rattle.packet_nets.specs.packet_wires.specs.Wires.{Wires, Midst, on_bus, packets_over, without_packet}
use Rattle.packet_nets.specs.packet_wires.specs.Wires.{all_posted, midst_after_arrival}
use Rattle.packet_nets.specs.packet_wires.specs.Wires.{midst_after_tick, cut_off, loaded_again, nothing_sent, with_sent}
use Rattle.packet_nets.specs.Owing.{on_both}
use Rattle.packet_nets.specs.Passing.{IsPassing, IsCut}
use Rattle.packet_nets.proofs.Passing.{come-passes, drop-passes, watched-passes, cut-passes, again-passes}
use Rattle.packet_nets.proofs.Passing.{posted-passes, ticked-passes, declares-passes, stop-passes, ticked-cut}
use Rattle.packet_nets.proofs.Resting.{begins-passing, rest-lost, rest-net, rest-clear}
use Rattle.packet_nets.proofs.Ticking.{pulled-other}
use Rattle.packet_nets.proofs.Tied.{gone-rests, stop-running}
use Rattle.packets_laws.specs.Passing.{delivered, TakesToDeliver, IsNetOf, IsPassed, IsTickPassed, ReloadsNone}
use Rattle.packets_laws.proofs.Going.{marks-stay}
use Rattle.packets_laws.proofs.Playing.{among-taken, stands-there}
use Rattle.packets_laws.proofs.Posting.{mark-gone, still-running, now-stopped, reload-is}
use Rattle.packet_nets.specs.Passing.{IsNet}
use Rattle.packet_nets.proofs.Reloading.{reload-net}
use Rattle.message_wires_laws.specs.machine_states.proofs.Turning.{drive-cases}

-- A state in the midst of an event

abbrev Passing : ℕ → ℕ → List Packet → Net → List Packet → Underway → Type 0
Passing a b on start came s = IsPassing a b s.world.stopped on start came s.wires

-- what is made of it, if a state is made in which both run
abbrev LeadsOn : ℕ → ℕ → List Packet → Net → List Packet → Played Midst → Type 0
LeadsOn a b on start came (Makes s) =
    is_running s.world.stopped a ≡ true → is_running s.world.stopped b ≡ true → Passing a b on start came s
LeadsOn a b on start came Skips = Unit {0}
LeadsOn a b on start came (Would harm) = Unit {0}

-- who runs after a stop isn't the one that stopped
apart-of : (stopped : List Bool) (processor a : ℕ) → slice_get stopped processor ≡ Some false
    → is_running (slice_set stopped processor true) a ≡ true → processor ≢ a
apart-of stopped processor a at runs same =
    let gone : is_running (slice_set stopped processor true) processor ≡ false =
    ap (runs_by processor) (now-stopped stopped processor at) in
    let bad : true ≡ false =
    sym (subst (λ c. is_running (slice_set stopped processor true) c ≡ true) (sym same) runs) ∙ gone in absurd cc

module _ {a b : ℕ} {on : List Packet} {start : Net} where
  -- parcels are posted after a change that stops nobody
  posted-leads : {came : List Packet} {stopped : List Bool} (later : List Bool) (midst : Midst) (parcels : List Parcel)
      → later ≡ stopped → IsPassing a b stopped on start came midst
      → IsPassing a b later on start came (all_posted later parcels midst)
  posted-leads {came = came} later midst parcels same P =
      posted-passes parcels midst (subst (λ ones. IsPassing a b ones on start came midst) (sym same) P)

  any-leads : {came : List Packet} (s : Underway) (done : Option Done) → StopsNone s.world done
      → Passing a b on start came s → Passing a b on start came (after_any s done)
  any-leads s None none P = P
  any-leads s (Some done) none P =
      posted-leads done.world.stopped s.wires (parcels_of done.world (letters_of s.site done.world done.sendings))
      none P

  made-leads : {came : List Packet} (s : Underway) (done : Option Done) → StopsNone s.world done
      → Passing a b on start came s → LeadsOn a b on start came (made_by s done)
  made-leads s None none P = tt
  made-leads s (Some done) none P = λ one other. any-leads s (Some done) none P

  marks-lead : {came : List Packet} (node processor : ℕ) (s : Underway) → is_running s.world.stopped node ≡ true
      → Passing a b on start came s
      → Passing a b on start came (marks node processor s)
  marks-lead {came = came} node processor s runs P =
      by (down_done node processor s.world) refl (mark-none s.site s.world node processor)
    where
      by : (done : Option Done) → down_done node processor s.world ≡ done → StopsNone s.world done
          → Passing a b on start came (marked_by node processor s done)
      by None e none = P
      by (Some done) e none =
          posted-leads done.world.stopped (cut_off node processor s.wires)
          (parcels_of done.world
          (letters_of s.site done.world (done.sendings ++ sent_again s.site s.world done.world node processor))) none
          (cut-passes node processor runs (mark-gone node processor s.world done e) s.wires P)

  handed-leads : {came : List Packet} (node : ℕ) (told : NodeMessage) (s : Underway)
      → is_running s.world.stopped node ≡ true → Passing a b on start came s
      → Passing a b on start came (handed node told s)
  handed-leads node (Carrying message) s runs P =
      any-leads s (handed_done s.site node message s.world) (handed-none s.site s.world node message) P
  handed-leads node (Changing change) s runs P =
      any-leads s (change_done s.site node change s.world)
      (change-each s.site node change s.world (StopsNone s.world) tt
      (λ message. handed-none s.site s.world node (Checkpointing message))) P
  handed-leads node (Reporting from set) s runs P =
      watched-passes node (changed_at from (watching.neighbour_after_report set)) s.wires P
  handed-leads node (Declaring processor) s runs P = marks-lead node processor s runs P

  words-lead : {came : List Packet} (node : ℕ) (words : Option (List ℤ)) (s : Underway)
      → is_running s.world.stopped node ≡ true → Passing a b on start came s
      → Passing a b on start came (handed_words node words s)
  words-lead node None s runs P = P
  words-lead {came = came} node (Some words) s runs P = by (understood s.site words)
    where
      by : (told : Option NodeMessage) → Passing a b on start came (handed_any node told s)
      by None = P
      by (Some told) = handed-leads node told s runs P

  deliver-leads : (name : BusName) (s : Underway) (packet : Option Packet)
      → ((p : Packet) → packet ≡ Some p → IsAmong p on) → Passing a b on start [] s
      → LeadsOn a b on start (option_to_list packet) (deliver_acted name s packet)
  deliver-leads name s None stands P = tt
  deliver-leads name s (Some p) stands P = λ one other. by (comes_in p s) refl
    where
      by : (test : Bool) → comes_in p s ≡ test
          → Passing a b on start (p ∷ []) (if test then received name p s else s)
      by true comes =
          let both = both-true (is_running s.world.stopped p.receiver)
          (is_current_at p (end_at s.wires.nodes p.receiver p.sender)) comes in
          words-lead p.receiver (message_at_end p (end_at s.wires.nodes p.receiver p.sender))
          (record s { wires = midst_after_arrival name p s.wires }) both.0
          (come-passes name p (stands p refl) both.0 s.wires both.1 P)
      by false rests = drop-passes p (stands p refl) s.wires rests P

  lose-leads : (s : Underway) (packet : Option Packet) → Passing a b on start [] s
      → LeadsOn a b on start [] (lose_acted s packet)
  lose-leads s None P = tt
  lose-leads s (Some p) P = λ one other. P

  repeat-leads : (name : BusName) (s : Underway) (packet : Option Packet)
      → ((p : Packet) → packet ≡ Some p → IsAmong p on) → Passing a b on start [] s
      → LeadsOn a b on start [] (repeat_acted name s packet)
  repeat-leads name s None stands P = tt
  repeat-leads name s (Some p) stands P = λ one other. again-passes name p (stands p refl) s.wires P

  fail-leads : (processor : ℕ) (s : Underway) → Passing a b on start [] s
      → LeadsOn a b on start [] (fail_acted processor s (slice_get s.world.stopped processor))
  fail-leads processor s P = by (slice_get s.world.stopped processor) refl
    where
      stops : slice_get s.world.stopped processor ≡ Some false → (whole : Bool)
          → LeadsOn a b on start [] (stop_acted processor s (stop_if processor s.world whole))
      stops at false = tt
      stops at true = λ one other. stop-passes processor at (apart-of s.world.stopped processor a at one)
          (apart-of s.world.stopped processor b at other) P

      by : (stopped : Option Bool) → slice_get s.world.stopped processor ≡ stopped
          → LeadsOn a b on start [] (fail_acted processor s stopped)
      by None at = tt
      by (Some true) at = tt
      by (Some false) at = rw at (stops at (is_whole s.world))

  -- the node marks a processor, and tells the others
  told-lead : (node processor : ℕ) (s : Underway) → is_running s.world.stopped node ≡ true → Passing a b on start [] s
      → Passing a b on start [] (marks_and_declares node processor s)
  told-lead node processor s runs P =
      declares-passes (marks node processor s).site.processors node processor
      (subst (λ ones. is_running ones node ≡ true) (sym (marks-stay node processor s).stopped) runs)
      (marks node processor s).wires (marks-lead node processor s runs P)

  line-leads : (node : ℕ) (s : Underway) (line : Option ℕ)
      → ((processor : ℕ) → line ≡ Some processor → processor ≢ node) → is_running s.world.stopped node ≡ true
      → Passing a b on start [] s → LeadsOn a b on start [] (pulls node s line)
  line-leads node s None other runs P = λ one two. P
  line-leads node s (Some processor) other runs P = by (slice_get s.world.stopped processor) refl
    where
      stops : slice_get s.world.stopped processor ≡ Some false → (whole : Bool)
          → LeadsOn a b on start [] (pulled_running node processor s (stop_if processor s.world whole))
      stops at false = tt
      stops at true = λ one two.
          let same = (marks-stay node processor (record s { world = stopped_world processor s.world })).stopped in
          told-lead node processor (record s { world = stopped_world processor s.world })
          (still-running s.world.stopped processor node (other processor refl) runs)
          (stop-passes processor at (apart-of s.world.stopped processor a at
          (subst (λ ones. is_running ones a ≡ true) same one))
          (apart-of s.world.stopped processor b at (subst (λ ones. is_running ones b ≡ true) same two)) P)

      by : (stopped : Option Bool) → slice_get s.world.stopped processor ≡ stopped
          → LeadsOn a b on start [] (pulled node processor s stopped)
      by None at = λ one two. P
      by (Some true) at = λ one two. told-lead node processor s runs P
      by (Some false) at = rw at (stops at (is_whole s.world))

  tick-leads : (node : ℕ) (s : Underway) → Passing a b on start [] s → LeadsOn a b on start [] (tick_acted node s)
  tick-leads node s P = by (is_running s.world.stopped node) refl
    where
      by : (test : Bool) → is_running s.world.stopped node ≡ test
          → LeadsOn a b on start [] (if test then pulls_its node
          (record s { wires = midst_after_tick s.site.processors node s.wires }) else Skips)
      by false rests = tt
      by true runs =
          line-leads node (record s { wires = midst_after_tick s.site.processors node s.wires })
          (line_of node (record s { wires = midst_after_tick s.site.processors node s.wires }))
          (λ processor is. (pulled-other node (midst_after_tick s.site.processors node s.wires).nodes
          processor is).0) runs
          (ticked-passes s.site.processors node runs s.wires P)

-- A whole event

acted-leads : (a b : ℕ) (s : Packeted) (event : Event) (n : Net) → length s.world.stopped ≤ 16 → IsNetOf s n
    → ReloadsNone event
    → LeadsOn a b (on_both s.wires) n (option_to_list (delivered s event)) (acted s event)
acted-leads a b s event n few N none = by event none
  where
    P : Passing a b (on_both s.wires) n [] (underway s)
    P = begins-passing s.wires few N

    by : (event : Event) → ReloadsNone event
        → LeadsOn a b (on_both s.wires) n (option_to_list (delivered s event)) (acted s event)
    by (Run number) none = made-leads (underway s) (run_done s.site number s.world) (run-none s.site s.world number) P
    by (Enter number) none =
        made-leads (underway s) (enter_done s.site number s.world) (enter-none s.site s.world number) P
    by (Deliver bus k) none =
        deliver-leads bus (underway s) (packet_at s bus k) (stands-there s bus k) P
    by (Lose bus k) none = lose-leads (underway s) (packet_at s bus k) P
    by (Repeat bus k) none =
        repeat-leads bus (underway s) (packet_at s bus k) (stands-there s bus k) P
    by (Tick node) none = tick-leads node (underway s) P
    by (Fail processor) none = fail-leads processor (underway s) P
    by (Reload processor) none = absurd none
    by (Drive event) none =
        drive-cases event (underway s) (LeadsOn a b (on_both s.wires) n []) (λ drives one two. P) tt (λ process. tt)

-- what was on a bus is still there, or was taken off
kept-or-taken : (p : Packet) (on : List Packet) (k : ℕ) → IsAmong p on
    → IsAmong p (remove on k) ⊎ IsAmong p (option_to_list (slice_get on k))
kept-or-taken p [] k among = absurd among
kept-or-taken p (one ∷ on) zero (inl same) = inr (inl same)
kept-or-taken p (one ∷ on) zero (inr among) = inl among
kept-or-taken p (one ∷ on) (suc k) (inl same) = inl (inl same)
kept-or-taken p (one ∷ on) (suc k) (inr among) =
    elim (kept-or-taken p on k among) [ inl still ↦ inl (inr still) | inr taken ↦ inr taken ]

bus-or-taken : (s : Packeted) (name : BusName) (k : ℕ) (p : Packet) → IsAmong p (on_both s.wires)
    → IsAmong p (on_both (without_packet name k s.wires)) ⊎ IsAmong p (option_to_list (packet_at s name k))
bus-or-taken s bus.X k p among = elim (among-either p s.wires.x s.wires.y among) [
  | inl one ↦ elim (kept-or-taken p s.wires.x k one)
      [ inl still ↦ inl (among-left p (remove s.wires.x k) s.wires.y still) | inr taken ↦ inr taken ]
  | inr other ↦ inl (among-right p (remove s.wires.x k) s.wires.y other)
]
bus-or-taken s bus.Y k p among = elim (among-either p s.wires.x s.wires.y among) [
  | inl one ↦ inl (among-left p s.wires.x (remove s.wires.y k) one)
  | inr other ↦ elim (kept-or-taken p s.wires.y k other)
      [ inl still ↦ inl (among-right p s.wires.x (remove s.wires.y k) still) | inr taken ↦ inr taken ]
]

event-keeps : (s : Packeted) (event : Event) → TakesToDeliver event → (p : Packet) → IsAmong p (on_both s.wires)
    → IsAmong p (on_both (taken_off event s.wires)) ⊎ IsAmong p (option_to_list (delivered s event))
event-keeps s (Run number) takes p among = inl among
event-keeps s (Enter number) takes p among = inl among
event-keeps s (Deliver bus k) takes p among = bus-or-taken s bus k p among
event-keeps s (Lose bus k) takes p among = absurd takes
event-keeps s (Repeat bus k) takes p among = inl among
event-keeps s (Tick node) takes p among = inl among
event-keeps s (Fail processor) takes p among = inl among
event-keeps s (Reload processor) takes p among = inl among
event-keeps s (Drive event) takes p among = inl among

among-some : (p : Packet) (found : Option Packet) → found ≡ Some p → IsAmong p (option_to_list found)
among-some p found is = subst (λ o. IsAmong p (option_to_list o)) (sym is) (inl refl)

-- what an event makes, if it makes a state in which both run, is passed
abbrev PassesIf : ℕ → ℕ → Packeted → Event → Net → Played Wires → Type 0
PassesIf a b s event n (Makes next) =
    is_running next.world.stopped a ≡ true → is_running next.world.stopped b ≡ true → IsPassed a b s event next n
PassesIf a b s event n Skips = Unit {0}
PassesIf a b s event n (Would harm) = Unit {0}

over-passes : (a b : ℕ) (s : Packeted) (event : Event) (n : Net) (played : Played Midst) → acted s event ≡ played
    → LeadsOn a b (on_both s.wires) n (option_to_list (delivered s event)) played
    → PassesIf a b s event n (ended (taken_off event s.wires) played)
over-passes a b s event n Skips is leads = tt
over-passes a b s event n (Would harm) is leads = tt
over-passes a b s event n (Makes after) is leads = λ one other.
    let P = leads one other in record {
      came = option_to_list (delivered s event);
      middle = P.net;
      passes = P.passes;
      comes = λ p found. among-some p (delivered s event) found;
      lost = rest-lost s.wires (taken_off event s.wires) after.wires P (among-taken event s.wires);
      net = rest-net s.wires (taken_off event s.wires) after.wires P (among-taken event s.wires);
      clear = λ clear takes. rest-clear s.wires (taken_off event s.wires) after.wires P (among-taken event s.wires)
          (λ name. subst (λ out. length (on_bus name (taken_off event s.wires)) + length (packets_over name out)
          ≤ 4096) (ap out_of is) (clear name))
          (event-keeps s event takes);
      few = P.few;
    }

pub event-passes : (s : Packeted) (event : Event) (next : Packeted) (n : Net) (a b : ℕ) → length s.world.stopped ≤ 16
    → IsNetOf s n → ReloadsNone event → play s event ≡ Makes next
    → is_running next.world.stopped a ≡ true → is_running next.world.stopped b ≡ true → IsPassed a b s event next n
event-passes s event next n a b few N none made =
    subst (PassesIf a b s event n) made (over-passes a b s event n (acted s event) refl
    (acted-leads a b s event n few N none))

-- A reload

-- what it makes, if it makes a state, has its wires in the net in which the processor was loaded
abbrev LoadsIf : ℕ → Net → Played Wires → Type 0
LoadsIf x n (Makes next) = Goes n (reloaded_net x n) × IsNetOf next (reloaded_net x n)
LoadsIf x n Skips = Unit {0}
LoadsIf x n (Would harm) = Unit {0}

pub reload-loads : (s next : Packeted) (x : ℕ) (n : Net) → IsNetOf s n → play s (Reload x) ≡ Makes next
    → Goes n (reloaded_net x n) × IsNetOf next (reloaded_net x n)
reload-loads s next x n N made = subst (LoadsIf x n) made (by (reload_done s.site x s.world) refl)
  where
    by : (done : Option Done) → reload_done s.site x s.world ≡ done
        → LoadsIf x n (ended s.wires (reload_acted x (underway s) done))
    by None e = tt
    by (Some done) e =
        let is = reload-is s.site x s.world done e in (
          loads x (N.tied.stood x ∙ ap not (gone-rests s.world.stopped x is.1)),
          subst (λ (d : Done). IsNet d.world.stopped
              (with_sent (loaded_again s.site.processors x (nothing_sent s.wires.nodes)) s.wires) (reloaded_net x n))
              (sym is.3) (reload-net s.site.processors x is.1 N),
        )

pub reload-netted : (s next : Packeted) (x : ℕ) (n : Net) → length s.world.stopped ≤ 16 → IsNetOf s n
    → play s (Reload x) ≡ Makes next → (m : Net) × IsNetOf next m
reload-netted s next x n few N made = (reloaded_net x n, (reload-loads s next x n N made).1)

-- A tick of the node a, cut where its end with b ticks

abbrev CutsIf : ℕ → ℕ → List Packet → Net → Played Midst → Type 0
CutsIf a b on start (Makes s) = is_running s.world.stopped a ≡ true → is_running s.world.stopped b ≡ true
    → IsCut a b s.world.stopped on start s.wires
CutsIf a b on start Skips = Unit {0}
CutsIf a b on start (Would harm) = Unit {0}

-- who runs in what is made ran before
abbrev Ran : ℕ → Underway → Played Midst → Type 0
Ran b s (Makes next) = is_running next.world.stopped b ≡ true → is_running s.world.stopped b ≡ true
Ran b s Skips = Unit {0}
Ran b s (Would harm) = Unit {0}

-- what goes on after the cut leads on from it
cut-on : (a b : ℕ) (on : List Packet) (start middle : Net) (played : Played Midst) → Passes a b start [] middle
    → LeadsOn a b on (ticked_net a b middle) [] played → CutsIf a b on start played
cut-on a b on start middle (Makes s) first leads =
    λ one other. record { middle = middle; first = first; rest = leads one other }
cut-on a b on start middle Skips first leads = tt
cut-on a b on start middle (Would harm) first leads = tt

-- who runs after a node pulled its line ran before
ran-before : (b node : ℕ) (s : Underway) (line : Option ℕ) → Ran b s (pulls node s line)
ran-before b node s None = λ other. other
ran-before b node s (Some processor) = by (slice_get s.world.stopped processor) refl
  where
    stops : slice_get s.world.stopped processor ≡ Some false → (whole : Bool)
        → Ran b s (pulled_running node processor s (stop_if processor s.world whole))
    stops at false = tt
    stops at true = λ other.
        let same = (marks-stay node processor (record s { world = stopped_world processor s.world })).stopped in
        stop-running s.world.stopped processor at b (subst (λ ones. is_running ones b ≡ true) same other)

    by : (stopped : Option Bool) → slice_get s.world.stopped processor ≡ stopped
        → Ran b s (pulled node processor s stopped)
    by None at = λ other. other
    by (Some true) at = λ other. subst (λ ones. is_running ones b ≡ true) (marks-stay node processor s).stopped other
    by (Some false) at = rw at (stops at (is_whole s.world))

tick-cuts : (a b : ℕ) (on : List Packet) (start : Net) (s : Underway) → Passing a b on start [] s
    → CutsIf a b on start (tick_acted a s)
tick-cuts a b on start s P = by (is_running s.world.stopped a) refl
  where
    whole : is_running s.world.stopped a ≡ true → (played : Played Midst)
        → pulls_its a (record s { wires = midst_after_tick s.site.processors a s.wires }) ≡ played
        → Ran b (record s { wires = midst_after_tick s.site.processors a s.wires }) played → CutsIf a b on start played
    whole runs Skips is ran = tt
    whole runs (Would harm) is ran = tt
    whole runs (Makes next) is ran = λ one other.
        let cut = ticked-cut runs (ran other) s.site.processors s.wires P in
        cut-on a b on start cut.middle (Makes next) cut.first (subst (LeadsOn a b on (ticked_net a b cut.middle) []) is
        (line-leads a (record s { wires = midst_after_tick s.site.processors a s.wires })
        (line_of a (record s { wires = midst_after_tick s.site.processors a s.wires }))
        (λ processor line. (pulled-other a (midst_after_tick s.site.processors a s.wires).nodes processor line).0) runs
        cut.rest)) one other

    by : (test : Bool) → is_running s.world.stopped a ≡ test
        → CutsIf a b on start (if test then pulls_its a
        (record s { wires = midst_after_tick s.site.processors a s.wires }) else
        Skips)
    by false rests = tt
    by true runs =
        whole runs (pulls_its a (record s { wires = midst_after_tick s.site.processors a s.wires })) refl
        (ran-before b a (record s { wires = midst_after_tick s.site.processors a s.wires })
        (line_of a (record s { wires = midst_after_tick s.site.processors a s.wires })))

abbrev TicksIf : ℕ → ℕ → Packeted → Net → Played Wires → Type 0
TicksIf a b s n (Makes next) =
    is_running next.world.stopped a ≡ true → is_running next.world.stopped b ≡ true → IsTickPassed a b s next n
TicksIf a b s n Skips = Unit {0}
TicksIf a b s n (Would harm) = Unit {0}

over-ticks : (a b : ℕ) (s : Packeted) (n : Net) (played : Played Midst) → tick_acted a (underway s) ≡ played
    → CutsIf a b (on_both s.wires) n played
    → TicksIf a b s n (ended s.wires played)
over-ticks a b s n Skips is cuts = tt
over-ticks a b s n (Would harm) is cuts = tt
over-ticks a b s n (Makes after) is cuts = λ one other.
    let cut = cuts one other in record {
      middle = cut.middle;
      first = cut.first;
      last = cut.rest.net;
      rest = cut.rest.passes;
      lost = rest-lost s.wires s.wires after.wires cut.rest (λ p among. among);
      net = rest-net s.wires s.wires after.wires cut.rest (λ p among. among);
      clear = λ clear. rest-clear s.wires s.wires after.wires cut.rest (λ p among. among)
          (λ name. subst (λ out. length (on_bus name s.wires) + length (packets_over name out) ≤ 4096) (ap out_of is)
          (clear name)) (λ p among. inl among);
    }

pub tick-passed : (s next : Packeted) (n : Net) (a b : ℕ) → length s.world.stopped ≤ 16 → IsNetOf s n
    → play s (Tick a) ≡ Makes next → is_running next.world.stopped a ≡ true
    → is_running next.world.stopped b ≡ true → IsTickPassed a b s next n
tick-passed s next n a b few N made =
    subst (TicksIf a b s n) made (over-ticks a b s n (tick_acted a (underway s)) refl
    (tick-cuts a b (on_both s.wires) n (underway s) (begins-passing s.wires few N)))

-- What each event changes, and where.
use Rattle.std.proofs.Common.{◌≡◌, ℕ, zero, suc, ◌==◌, ℤ, Bool, true, false, if◌then◌else◌, List, [], ◌∷◌, ◌++◌, map}
use Rattle.std.proofs.Common.{Option, Some, None, slice_get, slice_set, refl, sym, ap, subst, ◌∙◌, inl, inr}
use Rattle.gd_words.specs.Members.{IsAmong}
use Rattle.gd_words.proofs.Among.{among-either}
use Rattle.tal_tree.specs.declared.site.Site.{Site}
use Rattle.schedule.specs.declared.event.Event.TheVariants.{Run, Enter, Deliver, Lose, Repeat, Tick, Fail, Drive}
use Rattle.schedule.specs.declared.bus_name.BusName.{BusName}
use Rattle.packet_words.specs.declared.packet.Packet.{Packet}
use Rattle.alive_regroup.specs.Watching as watching
use Rattle.alive_regroup.specs.Watching.{changed_at}
use Rattle.world_semantics.specs.declared.which.Which.{Which}
use Rattle.world_semantics.specs.declared.which.Which.TheVariants.{First, Second}
use Rattle.world_semantics.specs.World.{Copy, Pair, World, terminal_node, is_running, is_whole, copy_of}
use Rattle.world_semantics.specs.Messages.{Checkpointing, Sending}
use Rattle.std.proofs.lemmas.Bool.{eqb-true}
use Rattle.world_semantics.specs.declared.role.Role.TheVariants.{Gone}
use Rattle.world_semantics.specs.Rules.{stopped_copy, stopped_pair}
use Rattle.world_semantics.specs.Running.{Done, run_done}
use Rattle.world_semantics.proofs.Lists.{set-there, some-same}
use Rattle.world_semantics.proofs.Members.{among-map}
use Rattle.computed_changes.specs.Entered.{enter_done}
use Rattle.computed_changes.specs.Changed.{change_done}
use Rattle.computed_changes.specs.Handed.{handed_done}
use Rattle.computed_changes.proofs.Changed.{change-each}
use Rattle.computed_changes.specs.Stopped.{stop_done, stop_if, stop_where, stopped_world, marked_where, mark_where}
use Rattle.computed_changes.specs.Stopped.{may_mark}
use Rattle.computed_changes.specs.Stopped.{world_at_down}
use Rattle.letters.specs.Routes.{letters_of}
use Rattle.letters.specs.Again.{sent_again}
use Rattle.letter_laws.proofs.Given.{letter-from}
use Rattle.machine_states.specs.States.{Played, Makes, Skips, Would}
use Rattle.message_layout.specs.Messages.{NodeMessage, Carrying, Changing, Reporting, Declaring}
use Rattle.message_layout.specs.Reading.{understood}
use Rattle.packet_wires.specs.Nodes.{end_at}
use Rattle.packet_wires.specs.Parcels.{Parcel, parcel_of, parcels_of}
use Rattle.packet_wires.specs.Wires.{Wires, Midst, goes_over, midst_after_arrival, learns, midst_after_tick}
use Rattle.packet_wires.specs.Wires.{cut_off}
use Rattle.packet_wires.specs.Play.{Packeted, Underway, underway, after_done, made_by, after_any, after_marked}
use Rattle.packet_wires.specs.Play.{marked_by}
use Rattle.packet_wires.specs.Play.{marks, handed, handed_any, handed_words, message_at_end, received, deliver_acted}
use Rattle.packet_wires.specs.Play.{comes_in, lose_acted, repeat_acted, stop_acted, fail_acted, marks_and_declares}
use Rattle.packet_wires.specs.Play.{pulled_running, pulled, pulls, line_of, pulls_its, tick_acted, packet_at, acted}
use Rattle.packet_wires.specs.Play.{taken_off, ended, play}
use Rattle.packet_places.specs.Places.{KeepsItsOwn, CopiesStay, StaysElsewhere}
use Rattle.packet_places.proofs.Copies.{IsDoneAt, AnyAt, SomeAt, keeps-same, run-somewhere, enter-there, handed-there}
use Rattle.packet_places.proofs.Copies.{marked-there}
use Rattle.packet_places.proofs.Nodes.{OnlyAt, learns-only, posted-only, arrived-only, ticked-only, cut-only}
use Rattle.packet_places.proofs.Nodes.{declares-only}
use Rattle.machine_states.proofs.Turning.{drive-cases}
use Rattle.schedule.specs.declared.event.DriveEvent.{DriveEvent}

-- Letters of sendings at a node are sent by it, and so are their parcels
parcels-by : (site : Site) (w : World) (node : ℕ) (sendings : List Sending)
    → ((sending : Sending) → IsAmong sending sendings → sending.node ≡ node)
    → (parcel : Parcel) → IsAmong parcel (parcels_of w (letters_of site w sendings)) → parcel.sender ≡ node
parcels-by site w node sendings from parcel among =
    let letter = among-map (parcel_of w) (letters_of site w sendings) parcel among in
    let one = letter-from site w sendings letter.item letter.among in
    ap (λ (p : Parcel). p.sender) letter.same ∙ one.sender ∙ from one.sending one.among

-- in the midst of an event, away from a node all stays as it was
record Keeps (node : ℕ) (s next : Underway) : Type 0 where
  pub nodes : OnlyAt node s.wires next.wires
  pub copies : CopiesStay node s.world next.world

-- wires alone are changed
wires-stay : {node : ℕ} (s : Underway) (midst : Midst) → OnlyAt node s.wires midst
    → Keeps node s (record s { wires = midst })
wires-stay s midst only = record {
  nodes = only;
  copies = λ number k before after there now away same.
      subst (λ (p : Pair). KeepsItsOwn (copy_of k before) (copy_of k p)) (some-same (sym there ∙ now))
      (keeps-same (copy_of k before));
}

-- a change of the world at the node, and its letters
done-stays : {node : ℕ} (s : Underway) (done : Done) → IsDoneAt node s.world done → Keeps node s (after_done s done)
done-stays {node = node} s done at = record {
  nodes = posted-only node done.world.stopped (parcels_of done.world (letters_of s.site done.world done.sendings))
      s.wires (parcels-by s.site done.world node done.sendings at.sendings);
  copies = λ number k before after there now away same. at.copies number k before after there now away;
}

-- first the wires change at the node, and then something else there
through : {node : ℕ} {next : Underway} (s : Underway) (midst : Midst) → OnlyAt node s.wires midst
    → Keeps node (record s { wires = midst }) next → Keeps node s next
through s midst only stays = record { nodes = λ x n. stays.nodes x n ∙ only x n; copies = stays.copies }

same-stays : {node : ℕ} (s : Underway) → Keeps node s s
same-stays s = wires-stay s s.wires (λ x n. refl)

-- Marks

marked-stays : (node processor : ℕ) (s : Underway)
    → Keeps node s (after_marked node processor s (world_at_down node processor s.world))
marked-stays node processor s = record {
  nodes = λ x n.
      posted-only node s.world.stopped
      (parcels_of done.world (letters_of s.site done.world
      (done.sendings ++ sent_again s.site s.world done.world node processor)))
      (cut_off node processor s.wires)
      (parcels-by s.site done.world node (done.sendings ++ sent_again s.site s.world done.world node processor) from) x
      n
      ∙ cut-only node processor s.wires x n;
  copies = λ number k before after there now away same. at.copies number k before after there now away;
}
  where
    done : Done
    done = world_at_down node processor s.world

    at : IsDoneAt node s.world (world_at_down node processor s.world)
    at = marked-there node processor s.world

    from : (sending : Sending) → IsAmong sending
        ((world_at_down node processor s.world).sendings
        ++ sent_again s.site s.world (world_at_down node processor s.world).world node processor) → sending.node ≡ node
    from sending among =
        elim (among-either sending (world_at_down node processor s.world).sendings
        (sent_again s.site s.world (world_at_down node processor s.world).world node processor) among) [
          | inl told ↦ at.sendings sending told
          | inr again ↦ ap (λ (one : Sending). one.node)
              (among-map (λ message. record { node = node; message = message }) _ sending again).same
        ]

record Marks (node processor : ℕ) (s next : Underway) : Type 0 where
  pub stays : Keeps node s next
  pub stopped : next.world.stopped ≡ s.world.stopped

marks-stay : (node processor : ℕ) (s : Underway) → Marks node processor s (marks node processor s)
marks-stay node processor s = by (slice_get s.world.stopped processor)
  where
    none : Marks node processor s s
    none = record { stays = same-stays s; stopped = refl }

    may : (test : Bool) → Marks node processor s (marked_by node processor s (marked_where node processor s.world test))
    may false = none
    may true = record { stays = marked-stays node processor s; stopped = refl }

    by : (found : Option Bool) → Marks node processor s
        (marked_by node processor s (mark_where node processor s.world found))
    by None = none
    by (Some false) = none
    by (Some true) = may (may_mark node processor s.world)

told-stay : (node processor : ℕ) (s : Underway) → Marks node processor s (marks_and_declares node processor s)
told-stay node processor s =
    let one = marks-stay node processor s in record {
      stays = record {
        nodes = λ x n. declares-only (marks node processor s).site.processors node processor
            (marks node processor s).wires x n ∙ one.stays.nodes x n;
        copies = one.stays.copies;
      };
      stopped = one.stopped;
    }

-- Deliveries

any-stays : {node : ℕ} (s : Underway) (done : Option Done) → AnyAt node s.world done → Keeps node s (after_any s done)
any-stays s None at = same-stays s
any-stays s (Some done) at = done-stays s done at

handed-stays : (node : ℕ) (message : NodeMessage) (s : Underway) → Keeps node s (handed node message s)
handed-stays node (Carrying message) s =
    any-stays s (handed_done s.site node message s.world) (handed-there node s.world s.site message)
handed-stays node (Changing change) s =
    any-stays s (change_done s.site node change s.world)
    (change-each s.site node change s.world (AnyAt node s.world) tt
    (λ message. handed-there node s.world s.site (Checkpointing message)))
handed-stays node (Reporting from silent) s =
    wires-stay s (learns node (changed_at from (watching.neighbour_after_report silent)) s.wires)
    (learns-only node (changed_at from (watching.neighbour_after_report silent)) s.wires)
handed-stays node (Declaring processor) s = (marks-stay node processor s).stays

words-stay : (node : ℕ) (words : Option (List ℤ)) (s : Underway) → Keeps node s (handed_words node words s)
words-stay node None s = same-stays s
words-stay node (Some words) s = by (understood s.site words)
  where
    by : (found : Option NodeMessage) → Keeps node s (handed_any node found s)
    by None = same-stays s
    by (Some message) = handed-stays node message s

-- what an event makes, if it makes a state, stays elsewhere as it was
abbrev KeepsIf : ℕ → Underway → Played Midst → Type 0
KeepsIf node s (Makes next) = Keeps node s next
KeepsIf node s Skips = Unit {0}
KeepsIf node s (Would harm) = Unit {0}

abbrev StaysIf : ℕ → Packeted → Played Wires → Type 0
StaysIf node s (Makes next) = StaysElsewhere node s next
StaysIf node s Skips = Unit {0}
StaysIf node s (Would harm) = Unit {0}

-- what is taken off a bus, and what is put on, is at no node
over-stays : (node : ℕ) (s : Packeted) (wires : Wires) (played : Played Midst) → KeepsIf node (underway s) played
    → StaysIf node s (ended wires played)
over-stays node s wires (Makes next) keeps = record { nodes = keeps.nodes; copies = keeps.copies }
over-stays node s wires Skips keeps = tt
over-stays node s wires (Would harm) keeps = tt

deliver-found : (name : BusName) (s : Underway) (packet : Packet)
    → KeepsIf packet.receiver s (deliver_acted name s (Some packet))
deliver-found name s packet = by (comes_in packet s)
  where
    by : (test : Bool) → KeepsIf packet.receiver s (Makes (if test then received name packet s else s))
    by false = same-stays s
    by true =
        through s (midst_after_arrival name packet s.wires) (arrived-only name packet s.wires)
        (words-stay packet.receiver (message_at_end packet (end_at s.wires.nodes packet.receiver packet.sender))
        (record s { wires = midst_after_arrival name packet s.wires }))

pub deliver-stays : (s next : Packeted) (bus : BusName) (k : ℕ) (packet : Packet)
    → packet_at s bus k ≡ Some packet → play s (Deliver bus k) ≡ Makes next
    → StaysElsewhere packet.receiver s next
deliver-stays s next bus k packet there made =
    subst (StaysIf packet.receiver s) (ap (λ o.
    ended (taken_off (Deliver bus k) s.wires) (deliver_acted bus (underway s) o)) (sym there) ∙ made)
    (over-stays packet.receiver s (taken_off (Deliver bus k) s.wires)
    (deliver_acted bus (underway s) (Some packet)) (deliver-found bus (underway s) packet))

pub lose-stays : (s next : Packeted) (bus : BusName) (k node : ℕ) → play s (Lose bus k) ≡ Makes next
    → StaysElsewhere node s next
lose-stays s next bus k node made =
    subst (StaysIf node s) made (over-stays node s (taken_off (Lose bus k) s.wires) (acted s (Lose bus k))
    (by (packet_at s bus k)))
  where
    by : (found : Option Packet) → KeepsIf node (underway s) (lose_acted (underway s) found)
    by None = tt
    by (Some packet) = same-stays (underway s)

pub repeat-stays : (s next : Packeted) (bus : BusName) (k node : ℕ) → play s (Repeat bus k) ≡ Makes next
    → StaysElsewhere node s next
repeat-stays s next bus k node made =
    subst (StaysIf node s) made (over-stays node s (taken_off (Repeat bus k) s.wires) (acted s (Repeat bus k))
    (by (packet_at s bus k)))
  where
    by : (found : Option Packet) → KeepsIf node (underway s) (repeat_acted bus (underway s) found)
    by None = tt
    by (Some packet) = wires-stay (underway s) (goes_over bus packet (underway s).wires) (λ x n. refl)

-- Runs and entries

pub run-stays : (s next : Packeted) (number : ℕ) → play s (Run number) ≡ Makes next
    → (node : ℕ) × StaysElsewhere node s next
run-stays s next number made =
    subst Somewhere made (by (run_done s.site number s.world) (run-somewhere s.site number s.world))
  where
    Somewhere : Played Wires → Type 0
    Somewhere (Makes next) = (node : ℕ) × StaysElsewhere node s next
    Somewhere Skips = Unit {0}
    Somewhere (Would harm) = Unit {0}

    by : (done : Option Done) → SomeAt s.world done → Somewhere (ended s.wires (made_by (underway s) done))
    by None at = tt
    by (Some done) (node, at) =
        (node, over-stays node s s.wires (Makes (after_done (underway s) done)) (done-stays (underway s) done at))

pub enter-stays : (s next : Packeted) (terminal : ℕ) → play s (Enter terminal) ≡ Makes next
    → StaysElsewhere terminal_node s next
enter-stays s next terminal made =
    subst (StaysIf terminal_node s) made (over-stays terminal_node s s.wires (acted s (Enter terminal))
    (by (enter_done s.site terminal s.world) (enter-there s.site terminal s.world)))
  where
    by : (done : Option Done) → AnyAt terminal_node s.world done
        → KeepsIf terminal_node (underway s) (made_by (underway s) done)
    by None at = tt
    by (Some done) at = done-stays (underway s) done at

-- Stops

map-there : {A B : Type 0} (f : A → B) (xs : List A) (k : ℕ) (x : A) → slice_get xs k ≡ Some x
    → slice_get (map f xs) k ≡ Some (f x)
map-there f [] k x there = absurd cc
map-there f (y ∷ xs) zero x there = ap (λ z. Some (f z)) (some-same there)
map-there f (y ∷ xs) (suc k) x there = map-there f xs k x there

keeps-then : {one two three : Copy} → KeepsItsOwn one two → KeepsItsOwn two three → KeepsItsOwn one three
keeps-then first second = record {
  processor = second.processor ∙ first.processor;
  role = second.role ∙ first.role;
  era = second.era ∙ first.era;
  number = second.number ∙ first.number;
  sent = second.sent ∙ first.sent;
  acknowledged = second.acknowledged ∙ first.acknowledged;
  renewal = second.renewal ∙ first.renewal;
  core = second.core ∙ first.core;
  waiting = second.waiting ∙ first.waiting;
}

-- a copy in a processor that didn't stop
stop-keeps : (processor : ℕ) (stopped : List Bool) → slice_get stopped processor ≡ Some false → (copy : Copy)
    → slice_get (slice_set stopped processor true) copy.processor ≡ slice_get stopped copy.processor
    → KeepsItsOwn copy (stopped_copy processor copy)
stop-keeps processor stopped runs copy same = by (copy.processor == processor) refl
  where
    of : (test : Bool) → test ≡ false → KeepsItsOwn copy (record copy { role = if test then Gone else copy.role })
    of true e = absurd cc
    of false e = keeps-same copy

    by : (test : Bool) → (copy.processor == processor) ≡ test → KeepsItsOwn copy (stopped_copy processor copy)
    by false is = of (copy.processor == processor) is
    by true is =
        let here : copy.processor ≡ processor = eqb-true copy.processor processor is in
        let bad : Some true ≡ Some false =
        sym (set-there stopped processor false true runs)
        ∙ ap (slice_get (slice_set stopped processor true)) (sym here) ∙ same ∙ ap (slice_get stopped) here
        ∙ runs in
        absurd cc

stop-copies : (processor : ℕ) (w : World) → slice_get w.stopped processor ≡ Some false → (k : Which) (pair : Pair)
    → slice_get (slice_set w.stopped processor true) (copy_of k pair).processor
    ≡ slice_get w.stopped (copy_of k pair).processor
    → KeepsItsOwn (copy_of k pair) (copy_of k (stopped_pair processor pair))
stop-copies processor w runs First pair same = stop-keeps processor w.stopped runs pair.first same
stop-copies processor w runs Second pair same = stop-keeps processor w.stopped runs pair.second same

stopped-place : (processor : ℕ) (k : Which) (pair : Pair)
    → (copy_of k (stopped_pair processor pair)).processor ≡ (copy_of k pair).processor
stopped-place processor First pair = refl
stopped-place processor Second pair = refl

-- what holds where no stop is made, and where a processor that ran stops, holds of a stop
stop-cases : (P : Option Done → Type 0) (processor : ℕ) (w : World) → P None
    → (slice_get w.stopped processor ≡ Some false
    → P (Some (record { world = stopped_world processor w; sendings = [] })))
    → P (stop_done processor w)
stop-cases P processor w none some = by (slice_get w.stopped processor) refl
  where
    stops : slice_get w.stopped processor ≡ Some false → (whole : Bool) → P (stop_if processor w whole)
    stops runs true = some runs
    stops runs false = none

    by : (found : Option Bool) → slice_get w.stopped processor ≡ found → P (stop_where processor w found)
    by None runs = none
    by (Some true) runs = none
    by (Some false) runs = stops runs (is_whole w)

fail-keeps : (s : Underway) (processor node : ℕ) (found : Option Bool) → KeepsIf node s (fail_acted processor s found)
fail-keeps s processor node None = tt
fail-keeps s processor node (Some true) = tt
fail-keeps s processor node (Some false) =
    stop-cases (λ done. KeepsIf node s (stop_acted processor s done)) processor s.world tt (λ runs. record {
      nodes = λ x n. refl;
      copies = λ number k before after there now away same.
          subst (λ (p : Pair). KeepsItsOwn (copy_of k before) (copy_of k p))
          (some-same (sym (map-there (stopped_pair processor) s.world.processes number before there) ∙ now))
          (stop-copies processor s.world runs k before same);
    })

pub fail-stays : (s next : Packeted) (processor node : ℕ) → play s (Fail processor) ≡ Makes next
    → StaysElsewhere node s next
fail-stays s next processor node made =
    subst (StaysIf node s) made (over-stays node s s.wires (acted s (Fail processor))
    (fail-keeps (underway s) processor node (slice_get s.world.stopped processor)))

-- What becomes of drives

pub drive-stays : (s next : Packeted) (event : DriveEvent) (node : ℕ) → play s (Drive event) ≡ Makes next
    → StaysElsewhere node s next
drive-stays s next event node made =
    let same : Keeps node (underway s) (underway s) = same-stays (underway s) in
    subst (StaysIf node s) made (over-stays node s s.wires (acted s (Drive event))
    (drive-cases event (underway s) (KeepsIf node (underway s))
    (λ drives. record { nodes = same.nodes; copies = same.copies }) tt (λ process. tt)))

-- Ticks

-- a stop, and then the mark and what is told of it
held-stays : (node processor : ℕ) (s : Underway) → slice_get s.world.stopped processor ≡ Some false
    → Keeps node s (marks_and_declares node processor (record s { world = stopped_world processor s.world }))
held-stays node processor s runs =
    let told = told-stay node processor (record s { world = stopped_world processor s.world }) in record {
      nodes = told.stays.nodes;
      copies = λ number k before after there now away same.
          keeps-then
          (stop-copies processor s.world runs k before
          (ap (λ (stopped : List Bool). slice_get stopped (copy_of k before).processor) (sym told.stopped) ∙ same))
          (told.stays.copies number k (stopped_pair processor before) after
          (map-there (stopped_pair processor) s.world.processes number before there) now
          (λ at. away (sym (stopped-place processor k before) ∙ at))
          (ap (λ (stopped : List Bool). slice_get stopped (copy_of k (stopped_pair processor before)).processor)
          told.stopped));
    }

tick-keeps : (s : Underway) (node : ℕ) → KeepsIf node s (tick_acted node s)
tick-keeps s node = by (is_running s.world.stopped node)
  where
    only : OnlyAt node s.wires (midst_after_tick s.site.processors node s.wires)
    only = ticked-only s.site.processors node s.wires

    pull : (processor : ℕ) (found : Option Bool)
        → KeepsIf node s (pulled node processor
        (record s { wires = midst_after_tick s.site.processors node s.wires }) found)
    pull processor None = wires-stay s (midst_after_tick s.site.processors node s.wires) only
    pull processor (Some true) =
        through s (midst_after_tick s.site.processors node s.wires) only
        (told-stay node processor (record s { wires = midst_after_tick s.site.processors node s.wires })).stays
    pull processor (Some false) =
        stop-cases (λ done. KeepsIf node s (pulled_running node processor
        (record s { wires = midst_after_tick s.site.processors node s.wires }) done)) processor s.world tt
        (λ runs. through s (midst_after_tick s.site.processors node s.wires) only
        (held-stays node processor (record s { wires = midst_after_tick s.site.processors node s.wires }) runs))

    line : (found : Option ℕ) → KeepsIf node s
        (pulls node (record s { wires = midst_after_tick s.site.processors node s.wires }) found)
    line None = wires-stay s (midst_after_tick s.site.processors node s.wires) only
    line (Some processor) = pull processor (slice_get s.world.stopped processor)

    by : (test : Bool) → KeepsIf node s (if test then pulls_its node
        (record s { wires = midst_after_tick s.site.processors node s.wires }) else Skips)
    by false = tt
    by true = line (line_of node (record s { wires = midst_after_tick s.site.processors node s.wires }))

pub tick-stays : (s next : Packeted) (node : ℕ) → play s (Tick node) ≡ Makes next → StaysElsewhere node s next
tick-stays s next node made =
    subst (StaysIf node s) made (over-stays node s s.wires (acted s (Tick node)) (tick-keeps (underway s) node))

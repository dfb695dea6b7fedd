-- The machine over packets has two buses.
use Rattle.std.proofs.Common.{◌≡◌, inl, inr, ℕ, zero, suc, ◌∙◌, Bool, true, false, if◌then◌else◌, List, [], ◌∷◌, ◌++◌}
use Rattle.std.proofs.Common.{slice_get, Option, Some, None, refl, ap, sym, subst}
use Rattle.std.proofs.lemmas.List.{append_assoc, append-nil}
use Rattle.std.specs.List.{remove}
use Rattle.schedule.specs.declared.bus_name.BusName.{BusName}
use Rattle.schedule.specs.declared.event.Event.{Event}
use Rattle.schedule.specs.declared.event.Event.TheVariants.{Run, Enter, Deliver, Lose, Repeat, Tick, Fail, Reload}
use Rattle.schedule.specs.declared.event.Event.TheVariants.{Drive}
use Rattle.schedule.specs.declared.bus_name.BusName.TheVariants as bus
use Rattle.packet_words.specs.declared.packet.Packet.{Packet}
use Rattle.bus_model.specs.Packets.{sent, has_room}
use Rattle.world_semantics.specs.Running.{Done, run_done}
use Rattle.computed_changes.specs.Entered.{enter_done}
use Rattle.computed_changes.specs.Stopped.{reload_done, stop_done}
use Rattle.machine_states.specs.States.{Played, Makes, Skips, Would}
use Rattle.packet_wires.specs.Wires.{Wires, Midst, packets_over, all_put, loaded_again}
use Rattle.packet_wires.specs.Play.{Packeted, Underway, underway, comes_in, deliver_acted, ended, fail_acted}
use Rattle.packet_wires.specs.Play.{lose_acted}
use Rattle.packet_wires.specs.Play.{made_by, over, packet_at, play, received, reload_acted, repeat_acted, stop_acted}
use Rattle.packet_wires.specs.Play.{taken_off, tick_acted}
use Rattle.round_laws.specs.Buses.{IsGrown, Leaves, HasBuses}
use Rattle.packet_rounds.specs.Played.{buses_of, IsPlay}
use Rattle.machine_states.proofs.Turning.{drive-cases}
use Rattle.machine_states.specs.disc_device.specs.mirror.specs.declared.state.DriveState.{DriveState}

-- What is put on a bus comes behind what is there

grown-none : {P : Type 0} (on : List P) → IsGrown on on
grown-none on = ([], sym (append-nil on))

grown-on : {P : Type 0} (one other last : List P) → IsGrown one other → IsGrown other last → IsGrown one last
grown-on one other last g h = (g.0 ++ h.0, h.1 ∙ ap (λ l. l ++ h.0) g.1 ∙ append_assoc one g.0 h.0)

sent-grown : (packet : Packet) (on : List Packet) → IsGrown on (sent packet on)
sent-grown packet on = by (has_room on)
  where
    by : (room : Bool) → IsGrown on (if room then on ++ packet ∷ [] else on)
    by true = (packet ∷ [], refl)
    by false = grown-none on

pub put-grown : (packets on : List Packet) → IsGrown on (all_put packets on)
put-grown [] on = grown-none on
put-grown (packet ∷ packets) on =
    grown-on on (sent packet on) (all_put packets (sent packet on)) (sent-grown packet on)
    (put-grown packets (sent packet on))

-- nothing is taken off where nothing stands
none-there : (on : List Packet) (k : ℕ) → slice_get on k ≡ None → remove on k ≡ on
none-there [] zero none = refl
none-there [] (suc k) none = refl
none-there (packet ∷ on) zero none = absurd (cc)
none-there (packet ∷ on) (suc k) none = ap (λ l. packet ∷ l) (none-there on k none)

skipped-grown : (on : List Packet) (k : ℕ) → slice_get on k ≡ None → IsGrown (remove on k) on
skipped-grown on k none = ([], sym (append-nil (remove on k) ∙ none-there on k none))

-- Events

abbrev LeavesIf : Packeted → Event → Played Wires → Type 0
LeavesIf s event (Makes next) = (bus : BusName) → Leaves bus event (buses_of s bus) (buses_of next bus)
LeavesIf s event Skips = (bus : BusName) → Leaves bus event (buses_of s bus) (buses_of s bus)
LeavesIf s event (Would harm) = Unit {0}

-- what takes nothing off
plain-made : (s : Packeted) (after : Underway) (bus : BusName)
    → IsGrown (buses_of s bus) (buses_of (over s.wires after) bus)
plain-made s after bus.X = put-grown (packets_over bus.X after.wires.out) s.wires.x
plain-made s after bus.Y = put-grown (packets_over bus.Y after.wires.out) s.wires.y

-- what takes a packet off
deliver-made : (s : Packeted) (one : BusName) (k : ℕ) (after : Underway) (name : BusName)
    → Leaves name (Deliver one k) (buses_of s name) (buses_of (over (taken_off (Deliver one k) s.wires) after) name)
deliver-made s bus.X k after bus.X = put-grown (packets_over bus.X after.wires.out) (remove s.wires.x k)
deliver-made s bus.X k after bus.Y = put-grown (packets_over bus.Y after.wires.out) s.wires.y
deliver-made s bus.Y k after bus.X = put-grown (packets_over bus.X after.wires.out) s.wires.x
deliver-made s bus.Y k after bus.Y = put-grown (packets_over bus.Y after.wires.out) (remove s.wires.y k)

deliver-skipped : (s : Packeted) (one : BusName) (k : ℕ) → packet_at s one k ≡ None → (name : BusName)
    → Leaves name (Deliver one k) (buses_of s name) (buses_of s name)
deliver-skipped s bus.X k none bus.X = skipped-grown s.wires.x k none
deliver-skipped s bus.X k none bus.Y = grown-none s.wires.y
deliver-skipped s bus.Y k none bus.X = grown-none s.wires.x
deliver-skipped s bus.Y k none bus.Y = skipped-grown s.wires.y k none

leaves : (s : Packeted) (event : Event) → LeavesIf s event (play s event)
leaves s (Run number) = by (made_by (underway s) (run_done s.site number s.world))
  where
    by : (played : Played Midst) → LeavesIf s (Run number) (ended s.wires played)
    by (Makes after) = plain-made s after
    by Skips = λ bus. grown-none (buses_of s bus)
    by (Would harm) = tt
leaves s (Enter terminal) = by (made_by (underway s) (enter_done s.site terminal s.world))
  where
    by : (played : Played Midst) → LeavesIf s (Enter terminal) (ended s.wires played)
    by (Makes after) = plain-made s after
    by Skips = λ bus. grown-none (buses_of s bus)
    by (Would harm) = tt
leaves s (Tick node) = by (tick_acted node (underway s))
  where
    by : (played : Played Midst) → LeavesIf s (Tick node) (ended s.wires played)
    by (Makes after) = plain-made s after
    by Skips = λ bus. grown-none (buses_of s bus)
    by (Would harm) = tt
leaves s (Repeat bus k) = by (repeat_acted bus (underway s) (packet_at s bus k))
  where
    by : (played : Played Midst) → LeavesIf s (Repeat bus k) (ended s.wires played)
    by (Makes after) = plain-made s after
    by Skips = λ bus. grown-none (buses_of s bus)
    by (Would harm) = tt
leaves s (Deliver bus k) = by (packet_at s bus k) refl
  where
    by : (packet : Option Packet) → packet_at s bus k ≡ packet
        → LeavesIf s (Deliver bus k) (ended (taken_off (Deliver bus k) s.wires) (deliver_acted bus (underway s)
        packet))
    by None is = deliver-skipped s bus k is
    by (Some packet) is = deliver-made s bus k
        (if comes_in packet (underway s) then received bus packet (underway s) else underway s)
leaves s (Lose bus k) = by (packet_at s bus k) refl
  where
    by : (packet : Option Packet) → packet_at s bus k ≡ packet
        → LeavesIf s (Lose bus k) (ended (taken_off (Lose bus k) s.wires) (lose_acted (underway s) packet))
    by None is = deliver-skipped s bus k is
    by (Some packet) is = deliver-made s bus k (underway s)
leaves s (Fail processor) = by (slice_get s.world.stopped processor)
  where
    same : (bus : BusName) → buses_of s bus ≡ buses_of s bus
    same bus = refl

    made : (done : Done) (bus : BusName)
        → buses_of (over s.wires (record (underway s) { world = done.world })) bus ≡ buses_of s bus
    made done bus.X = refl
    made done bus.Y = refl

    stops : (done : Option Done) → LeavesIf s (Fail processor) (ended s.wires (stop_acted processor (underway s) done))
    stops None = tt
    stops (Some done) = made done

    by : (stopped : Option Bool)
        → LeavesIf s (Fail processor) (ended s.wires (fail_acted processor (underway s) stopped))
    by None = same
    by (Some true) = same
    by (Some false) = stops (stop_done processor s.world)
leaves s (Reload processor) = by (reload_done s.site processor s.world)
  where
    same : (bus : BusName) → buses_of s bus ≡ buses_of s bus
    same bus = refl

    made : (done : Done) (bus : BusName)
        → buses_of (over s.wires (record (underway s) {
          world = done.world;
          wires = loaded_again s.site.processors processor (underway s).wires;
        })) bus ≡ buses_of s bus
    made done bus.X = refl
    made done bus.Y = refl

    by : (done : Option Done)
        → LeavesIf s (Reload processor) (ended s.wires (reload_acted processor (underway s) done))
    by None = same
    by (Some done) = made done
leaves s (Drive event) =
    drive-cases event (underway s) (λ (played : Played Midst). LeavesIf s (Drive event) (ended s.wires played)) made
    (λ bus. refl) (λ process. tt)
  where
    made : (drives : List (List DriveState)) (bus : BusName)
        → buses_of (over s.wires (record (underway s) { drives = drives })) bus ≡ buses_of s bus
    made drives bus.X = refl
    made drives bus.Y = refl

pub has-buses : HasBuses buses_of IsPlay
has-buses s event next (inl made) bus = subst (LeavesIf s event) made (leaves s event) bus
has-buses s event next (inr skipped) bus = subst (λ (t : Packeted). Leaves bus event (buses_of s bus) (buses_of t bus))
    (sym skipped.1) (subst (LeavesIf s event) skipped.0 (leaves s event) bus)

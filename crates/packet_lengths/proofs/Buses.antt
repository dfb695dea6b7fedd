-- No bus has more packets than it has room for.
use Rattle.std.proofs.Common.{◌≡◌, ◌≤◌, ℕ, zero, suc, ◌+◌, Bool, true, false, if◌then◌else◌, List, [], ◌∷◌, ◌++◌}
use Rattle.std.proofs.Common.{length, take, drop, refl, subst, arith, length-append}
use Rattle.std.specs.List.{remove}
use Rattle.std.proofs.lemmas.Bool.{ltb-true}
use Rattle.tal_tree.specs.declared.site.Site.{Site}
use Rattle.schedule.specs.declared.event.Event.{Event}
use Rattle.schedule.specs.declared.event.Event.TheVariants.{Run, Enter, Deliver, Lose, Repeat, Tick, Fail, Reload}
use Rattle.schedule.specs.declared.event.Event.TheVariants.{Drive}
use Rattle.line_lengths.specs.machine_states.specs.States.{Played, Makes, Skips, Would}
use Rattle.schedule.specs.declared.bus_name.BusName.{BusName}
use Rattle.schedule.specs.declared.bus_name.BusName.TheVariants as bus
use Rattle.packet_words.specs.declared.packet.Packet.{Packet}
use Rattle.bus_model.specs.Packets.{has_room, sent}
use Rattle.packet_numbers.specs.packet_wires.specs.Wires.{Midst, Wires, all_put, packets_over}
use Rattle.packet_numbers.specs.packet_wires.specs.Play.{Packeted, acted, count_on, ended, play, taken_off}
use Rattle.packet_numbers.specs.packet_wires.specs.Runs.{IsPlayed, played_none, played_more, skipped}

abbrev IsFew : List Packet → Type 0
IsFew on = length on ≤ 4096

abbrev AreFew : Wires → Type 0
AreFew wires = IsFew wires.x × IsFew wires.y

sent-few : (packet : Packet) (on : List Packet) → IsFew on → IsFew (sent packet on)
sent-few packet on few = by (has_room on) refl
  where
    by : (room : Bool) → has_room on ≡ room → IsFew (if room then on ++ packet ∷ [] else on)
    by true is =
        let low = ltb-true (length on) 4096 is in let sum = length-append on (packet ∷ []) in omega (arith, low, sum)
    by false is = few

all-few : (packets on : List Packet) → IsFew on → IsFew (all_put packets on)
all-few [] on few = few
all-few (packet ∷ packets) on few = all-few packets (sent packet on) (sent-few packet on few)

take-few : (k : ℕ) (xs : List Packet) → length (take k xs ++ drop (suc k) xs) ≤ length xs
take-few zero [] = omega arith
take-few zero (x ∷ xs) = omega arith
take-few (suc k) [] = omega arith
take-few (suc k) (x ∷ xs) = let rest = take-few k xs in omega (arith, rest)

remove-few : (on : List Packet) (k : ℕ) → IsFew on → IsFew (remove on k)
remove-few on k few = let less = take-few k on in omega (arith, less, few)

off-few : (event : Event) (wires : Wires) → AreFew wires → AreFew (taken_off event wires)
off-few (Run number) wires few = few
off-few (Enter terminal) wires few = few
off-few (Deliver bus.X k) wires few = (remove-few wires.x k few.0, few.1)
off-few (Deliver bus.Y k) wires few = (few.0, remove-few wires.y k few.1)
off-few (Lose bus.X k) wires few = (remove-few wires.x k few.0, few.1)
off-few (Lose bus.Y k) wires few = (few.0, remove-few wires.y k few.1)
off-few (Repeat bus k) wires few = few
off-few (Tick node) wires few = few
off-few (Fail processor) wires few = few
off-few (Reload processor) wires few = few
off-few (Drive event) wires few = few

abbrev AreFewPlayed : Played Wires → Type 0
AreFewPlayed (Makes next) = AreFew next.wires
AreFewPlayed Skips = Unit {0}
AreFewPlayed (Would harm) = Unit {0}

ended-few : (wires : Wires) (played : Played Midst) → AreFew wires → AreFewPlayed (ended wires played)
ended-few wires (Makes s) few =
    (all-few (packets_over bus.X s.wires.out) wires.x few.0, all-few (packets_over bus.Y s.wires.out) wires.y few.1)
ended-few wires Skips few = tt
ended-few wires (Would harm) few = tt

play-few : (s : Packeted) (event : Event) → AreFew s.wires → AreFewPlayed (play s event)
play-few s event few = ended-few (taken_off event s.wires) (acted s event) (off-few event s.wires few)

pub played-few : (site : Site) (events : List Event) (s : Packeted) → IsPlayed site events s
    → (length s.wires.x ≤ 4096) × (length s.wires.y ≤ 4096)
played-few site _ _ played_none = (omega arith, omega arith)
played-few site _ _ (played_more {events = events} {s = s} event before makes) =
    subst AreFewPlayed makes (play-few s event (played-few site events s before))
played-few site _ _ (skipped {events = events} {s = s} event before skips) = played-few site events s before

pub bus-few : (site : Site) (events : List Event) (s : Packeted) (name : BusName) → IsPlayed site events s
    → count_on s name ≤ 4096
bus-few site events s bus.X played = (played-few site events s played).0
bus-few site events s bus.Y played = (played-few site events s played).1

-- What events other than ticks do to what nodes know.
use Rattle.std.proofs.Common.{◌≡◌, ℕ, Bool, true, false, if◌then◌else◌, slice_get, Option, Some}
use Rattle.std.proofs.Common.{None, refl}
use Rattle.schedule.specs.declared.event.Event.{Event}
use Rattle.schedule.specs.declared.event.Event.TheVariants.{Run, Enter, Deliver, Lose, Repeat, Tick, Fail, Reload}
use Rattle.schedule.specs.declared.event.Event.TheVariants.{Drive}
use Rattle.packet_words.specs.declared.packet.Packet.{Packet}
use Rattle.world_semantics.specs.World.{is_whole}
use Rattle.world_semantics.specs.Running.{Done, run_done}
use Rattle.computed_changes.specs.Entered.{enter_done}
use Rattle.computed_changes.specs.Stopped.{stop_if}
use Rattle.single_stops.specs.message_wires_laws.proofs.Stopping.{StopsNone, run-none, enter-none}
use Rattle.machine_states.specs.States.{Played, Makes, Skips, Would}
use Rattle.packet_wires.specs.Wires.{Midst}
use Rattle.packet_wires.specs.Play.{Packeted, Underway, acted, underway, comes_in, deliver_acted, fail_acted}
use Rattle.packet_wires.specs.Play.{lose_acted}
use Rattle.packet_wires.specs.Play.{made_by, packet_at, received, repeat_acted, stop_acted}
use Rattle.calm_runs.proofs.Sending.{over-still}
use Rattle.calm_runs.proofs.Watching.{StateKeeps, state-none, any-keeps, received-keeps, still-keeps}

-- no tick, no stop, no reload and nothing of a drive
abbrev pub is_quiet : Event → Bool
is_quiet (Run number) = true
is_quiet (Enter terminal) = true
is_quiet (Deliver bus k) = true
is_quiet (Lose bus k) = true
is_quiet (Repeat bus k) = true
is_quiet (Tick node) = false
is_quiet (Fail processor) = false
is_quiet (Reload processor) = false
is_quiet (Drive event) = false

abbrev pub KeepsIf : Packeted → Played Midst → Type 0
KeepsIf s (Makes after) = StateKeeps (underway s) after
KeepsIf s Skips = Unit {0}
KeepsIf s (Would harm) = ⊥

made-keeps : (s : Packeted) (done : Option Done) → StopsNone s.world done → KeepsIf s (made_by (underway s) done)
made-keeps s None none = tt
made-keeps s (Some done) none = any-keeps (underway s) (Some done) none

pub quiet-keeps : (s : Packeted) (event : Event) → is_quiet event ≡ true → KeepsIf s (acted s event)
quiet-keeps s (Run number) quiet = made-keeps s (run_done s.site number s.world) (run-none s.site s.world number)
quiet-keeps s (Enter terminal) quiet =
    made-keeps s (enter_done s.site terminal s.world) (enter-none s.site s.world terminal)
quiet-keeps s (Deliver bus k) quiet = by (packet_at s bus k)
  where
    to : (packet : Packet) (runs : Bool)
        → StateKeeps (underway s) (if runs then received bus packet (underway s) else underway s)
    to packet true = received-keeps bus packet (underway s)
    to packet false = state-none (underway s)

    by : (packet : Option Packet) → KeepsIf s (deliver_acted bus (underway s) packet)
    by None = tt
    by (Some packet) = to packet (comes_in packet (underway s))
quiet-keeps s (Lose bus k) quiet = by (packet_at s bus k)
  where
    by : (packet : Option Packet) → KeepsIf s (lose_acted (underway s) packet)
    by None = tt
    by (Some packet) = state-none (underway s)
quiet-keeps s (Repeat bus k) quiet = by (packet_at s bus k)
  where
    by : (packet : Option Packet) → KeepsIf s (repeat_acted bus (underway s) packet)
    by None = tt
    by (Some packet) = record {
      stopped = refl;
      keep = still-keeps s.world.stopped (underway s).wires _ (over-still bus packet (underway s).wires);
    }
quiet-keeps s (Tick node) quiet = absurd (cc)
quiet-keeps s (Fail processor) quiet = absurd (cc)
quiet-keeps s (Reload processor) quiet = absurd (cc)
quiet-keeps s (Drive event) quiet = absurd (cc)

-- a stop changes nothing but who runs
pub record StopsSo (s : Packeted) (after : Underway) : Type 0 where
  pub wires : after.wires ≡ (underway s).wires
  pub shown : after.world.shown ≡ s.world.shown

abbrev pub StopsIf : Packeted → Played Midst → Type 0
StopsIf s (Makes after) = StopsSo s after
StopsIf s Skips = Unit {0}
StopsIf s (Would harm) = is_whole s.world ≡ false

pub stop-leaves : (s : Packeted) (processor : ℕ) → StopsIf s (acted s (Fail processor))
stop-leaves s processor = by (slice_get s.world.stopped processor) refl
  where
    first : (whole : Bool) → is_whole s.world ≡ whole
        → StopsIf s (stop_acted processor (underway s) (stop_if processor s.world whole))
    first true is = record { wires = refl; shown = refl }
    first false is = is

    by : (o : Option Bool) → slice_get s.world.stopped processor ≡ o → StopsIf s (fail_acted processor (underway s) o)
    by None at = tt
    by (Some true) at = tt
    by (Some false) at = rw at (first (is_whole s.world) refl)

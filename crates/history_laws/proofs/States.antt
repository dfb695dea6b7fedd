-- What a change of a world, and an event of a drive, make of the state of any machine and of its present.
use Rattle.std.proofs.Common.{◌≡◌, List, Option, Some, None, refl, ap, ap₂, sym, ◌∙◌, map, option_map, slice_get}
use Rattle.std.proofs.Common.{slice_set}
use Rattle.schedule.specs.declared.event.DriveEvent.{DriveEvent}
use Rattle.schedule_loop.specs.machine_states.specs.disc_device.specs.mirror.specs.declared.state.DriveState as drive
use Rattle.schedule_loop.specs.machine_states.specs.Drives.{Loses, Rests, Turned, Turns, drives_turned, turned_at}
use Rattle.schedule_loop.specs.machine_states.specs.States.{Makes, State, drive_played, played_turn}
use Rattle.schedule_loop.specs.world_semantics.specs.Running.{Done, world_after}
use Rattle.schedule_loop.specs.world_semantics.specs.World.{Pair, World}
use Rattle.history_laws.specs.Present.{present, present_pair, present_played, present_state}
use Rattle.history_laws.proofs.Presents.{get-present, state-twice, world-twice}
use Rattle.history_laws.proofs.Worlds.{present_changes}

-- the present of what is made of a state and a change is what is made of the presents of both. So changes that have one
-- present make of a state and of its present what has one
pub made-alike : {Wires A : Type 0} (make : State Wires → Option Done → A) (now : A → A)
    → ((s : State Wires) (done : Option Done) → now (make s done) ≡ make (present_state s) (present_changes done))
    → (s : State Wires) (one other : Option Done) → present_changes one ≡ present_changes other
    → now (make s one) ≡ now (make (present_state s) other)
made-alike {Wires} make now made s one other same =
    made s one
    ∙ ap₂ (λ (t : State Wires) (done : Option Done). make t done) (sym (state-twice s)) same
    ∙ sym (made (present_state s) other)

-- changes that have one present make worlds that have one
pub world-alike : (one other : Done) → present_changes (Some one) ≡ present_changes (Some other)
    → present one.world ≡ present other.world
world-alike one other same = ap (λ (done : Option Done). world_after (present one.world) done) same

-- Drives

drives-present : (event : DriveEvent) (pairs : List Pair) (drives : List (List drive.DriveState))
    → drives_turned event (map present_pair pairs) drives ≡ drives_turned event pairs drives
drives-present event pairs drives =
    ap (λ (found : Option Pair). turned_at event found (slice_get drives event.process))
    (get-present pairs event.process)
    ∙ by (slice_get pairs event.process) (slice_get drives event.process)
  where
    by : (found : Option Pair) (states : Option (List drive.DriveState))
        → turned_at event (option_map present_pair found) states ≡ turned_at event found states
    by None states = refl
    by (Some pair) None = refl
    by (Some pair) (Some states) = refl

pub driven-by : {Wires : Type 0} (event : DriveEvent) (s : State Wires)
    → present_played (drive_played event s) ≡ present_played (drive_played event (present_state s))
driven-by {Wires} event s =
    by (drives_turned event s.world.processes s.drives)
    ∙ ap (λ (turn : Turned). present_played (played_turn event.process (present_state s) turn))
    (sym (drives-present event s.world.processes s.drives))
  where
    by : (turn : Turned)
        → present_played (played_turn event.process s turn)
        ≡ present_played (played_turn event.process (present_state s) turn)
    by (Turns states) =
        ap (λ (w : World). Makes (record s { world = w; drives = slice_set s.drives event.process states }))
        (sym (world-twice s.world))
    by Rests = refl
    by Loses = refl

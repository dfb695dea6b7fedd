-- An event that names a drive of a process's device: what the device tells of it, and what the process shows then.
use Rattle.std.proofs.Common.{◌≡◌, ℕ, ◌↔◌, ◌&&◌, Bool, IsTrue, nat_eq, nat_lt, List, length, ap, ap₂, sym}
use Rattle.std.proofs.Common.{◌∙◌}
use Rattle.std.proofs.lemmas.Bool.Decides.{Decides-eqb, same_from_decides}
use Rattle.std.proofs.lemmas.List.{length-map}
use Rattle.disc_device.specs.Sectors.{Stored}
use Rattle.disc_device.specs.mirror.specs.Mirror.{DriveHeld}
use Rattle.disc_device.specs.mirror.specs.States.{states_of}
use Rattle.disc_device.specs.mirror.specs.declared.state.DriveState.{DriveState}
use Rattle.node_copies.specs.machine_states.specs.Drives.{Turned, Turns, Rests, Loses, is_of_two}
use Rattle.node_copies.specs.machine_states.specs.declared.effect.Effect.{Effect}
use Rattle.process_copies.specs.Seen.{Placed}
use Rattle.process_copies.specs.Turning.{TurnsDrives, TurnsPlaced}

-- whether there are two drives is told by how they stand
two-standing : (drives : List DriveHeld) (two : Bool) → IsTrue two ↔ (length drives ≡ 2)
    → two ≡ nat_eq (length (states_of drives)) 2
two-standing drives two is =
    same_from_decides two (nat_eq (length drives) 2) is (Decides-eqb (length drives) 2)
    ∙ ap (λ n. nat_eq n 2) (sym (length-map drives (λ (held : DriveHeld). held.state)))

pub of-two : (drives : List DriveHeld) (two : Bool) (drive : ℕ) → IsTrue two ↔ (length drives ≡ 2)
    → (two && nat_lt drive 2) ≡ is_of_two drive (states_of drives)
of-two drives two drive is = ap (λ b. b && nat_lt drive 2) (two-standing drives two is)

-- a process with these sectors, and its drives standing so
abbrev pub Standing : Placed → List Stored → List DriveState → Placed
Standing placed sectors states =
    record placed { pair = record placed.pair { sectors = sectors }; drives = states }

pub turns-placed : (turn : Turned) (before : Placed) (answer : Effect) (sectors : List Stored)
    (states : List DriveState) → sectors ≡ before.pair.sectors
    → TurnsDrives turn before.number before.drives answer states → TurnsPlaced turn before answer
    (Standing before sectors states)
turns-placed (Turns new) before answer sectors states same turns =
    (turns.0, ap₂ (Standing before) same turns.1)
turns-placed Rests before answer sectors states same turns = (turns.0, ap₂ (Standing before) same turns.1)
turns-placed Loses before answer sectors states same turns = (turns.0, ap₂ (Standing before) same turns.1)

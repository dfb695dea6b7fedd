-- What the code tells of an event that names a drive of a process's device. The rules are those of the machine's
-- states.
use Rattle.std.specs.Prelude.{◌≡◌, ℕ, List}
use Rattle.disc_device.specs.mirror.specs.declared.state.DriveState.{DriveState}
use Rattle.node_copies.specs.machine_states.specs.Drives.{Turned, Turns, Rests, Loses}
use Rattle.node_copies.specs.machine_states.specs.declared.effect.Effect.{Effect}
use Rattle.node_copies.specs.machine_states.specs.declared.effect.Effect.TheVariants.{Done, Skipped, WouldLoseDisc}
use Rattle.process_copies.specs.Seen.{Placed}

-- the answer for the device of the process of this number, and how its drives stand then
abbrev pub TurnsDrives : Turned → ℕ → List DriveState → Effect → List DriveState → Type 0
TurnsDrives (Turns states) number before answer after = (answer ≡ Done) × (after ≡ states)
TurnsDrives Rests number before answer after = (answer ≡ Skipped) × (after ≡ before)
TurnsDrives Loses number before answer after = (answer ≡ WouldLoseDisc number) × (after ≡ before)

-- a process with its drives standing so
abbrev pub placed_standing : List DriveState → Placed → Placed
placed_standing states placed = record placed { drives = states }

-- the answer, and the process after it: nothing changes but how its drives stand
abbrev pub TurnsPlaced : Turned → Placed → Effect → Placed → Type 0
TurnsPlaced (Turns states) before answer after = (answer ≡ Done) × (after ≡ placed_standing states before)
TurnsPlaced Rests before answer after = (answer ≡ Skipped) × (after ≡ before)
TurnsPlaced Loses before answer after = (answer ≡ WouldLoseDisc before.number) × (after ≡ before)

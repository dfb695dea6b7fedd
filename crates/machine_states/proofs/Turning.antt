-- What an event of a drive makes of a state: another one of the same site, world and wires, or none.
use Rattle.std.proofs.Common.{◌≡◌, ℕ, List, slice_set}
use Rattle.world_semantics.specs.disc_device.specs.mirror.specs.declared.state.DriveState.{DriveState}
use Rattle.schedule.specs.declared.event.DriveEvent.{DriveEvent}
use Rattle.machine_states.specs.Drives.{Turned, Turns, Rests, Loses, drives_turned}
use Rattle.machine_states.specs.States.{State, Played, Makes, Skips, Would, DiscLoss, drive_played, played_turn}

-- what holds where the drives stand otherwise, where nothing is done, and where a disc would be lost, holds of it
pub drive-cases : {Wires : Type 0} (event : DriveEvent) (s : State Wires) (P : Played Wires → Type 0)
    → ((drives : List (List DriveState)) → P (Makes (record s { drives = drives }))) → P Skips
    → ((process : ℕ) → P (Would (DiscLoss process))) → P (drive_played event s)
drive-cases event s P makes skips would = by (drives_turned event s.world.processes s.drives)
  where
    by : (turn : Turned) → P (played_turn event.process s turn)
    by (Turns states) = makes (slice_set s.drives event.process states)
    by Rests = skips
    by Loses = would event.process

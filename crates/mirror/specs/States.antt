-- How the drives of a device stand, apart from what is on them, and what each call makes of that.
use Rattle.std.specs.Prelude.{ℕ, ◌+◌, Bool, true, false, List, map, slice_get, slice_set, Option, Some, None}
use Rattle.mirror.specs.Mirror.{DriveHeld, failing_by, is_failed, other_than, state_at}
use Rattle.mirror.specs.declared.state.DriveState.{DriveState}
use Rattle.mirror.specs.declared.state.DriveState.TheVariants.{Working, Failed, Reviving}
use Rattle.mirror.specs.declared.state.Failing.{Failing}
use Rattle.mirror.specs.declared.state.Failing.TheVariants.{Done, AlreadyFailed, LastOne}

-- how each drive of a device stands, in order
abbrev pub states_of : List DriveHeld → List DriveState
states_of drives = map (λ held. held.state) drives

abbrev pub standing_in : Option DriveState → DriveState
standing_in None = Failed
standing_in (Some state) = state

-- how the drive at a place stands; one that isn't there has failed
abbrev pub drive_state_at : List DriveState → ℕ → DriveState
drive_state_at states drive = standing_in (slice_get states drive)

-- what comes of failing a drive
abbrev pub failing_of : List DriveState → ℕ → Failing
failing_of states drive = failing_by (drive_state_at states drive) (drive_state_at states (other_than drive))

-- how the drives stand after that came of failing one
abbrev pub states_failed : Failing → ℕ → List DriveState → List DriveState
states_failed Done drive states = slice_set states drive Failed
states_failed AlreadyFailed drive states = states
states_failed LastOne drive states = states

abbrev pub states_revived_by : Bool → ℕ → List DriveState → List DriveState
states_revived_by true drive states = slice_set states drive (Reviving 0)
states_revived_by false drive states = states

-- how they stand after one was revived, where it had failed
abbrev pub states_revived : ℕ → List DriveState → List DriveState
states_revived drive states = states_revived_by (is_failed (drive_state_at states drive)) drive states

abbrev pub states_copied_by : DriveState → ℕ → ℕ → List DriveState → List DriveState
states_copied_by (Reviving next) count drive states = slice_set states drive (state_at (next + 1) count)
states_copied_by Working count drive states = states
states_copied_by Failed count drive states = states

-- how they stand after the next sector of one that is revived was copied, of so many sectors
abbrev pub states_copied : ℕ → ℕ → List DriveState → List DriveState
states_copied count drive states = states_copied_by (drive_state_at states drive) count drive states

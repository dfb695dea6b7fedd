-- What becomes of the drives of discs in an event that names one of them. That one of two drives may fail and be
-- revived while its disc goes on is Tandem's; the events are our own.
use Rattle.std.specs.Prelude.{ℕ, ◌==◌, ◌&&◌, Bool, nat_lt, if◌then◌else◌, List, length, map, replicate, slice_get}
use Rattle.std.specs.Prelude.{Option, Some, None, true, false}
use Rattle.world_semantics.specs.disc_device.specs.mirror.specs.Mirror.{is_failed, is_reviving}
use Rattle.world_semantics.specs.disc_device.specs.mirror.specs.States.{failing_of, drive_state_at, states_copied}
use Rattle.world_semantics.specs.disc_device.specs.mirror.specs.States.{states_failed, states_revived}
use Rattle.world_semantics.specs.disc_device.specs.mirror.specs.declared.state.DriveState.{DriveState}
use Rattle.world_semantics.specs.disc_device.specs.mirror.specs.declared.state.DriveState.TheVariants.{Working}
use Rattle.world_semantics.specs.disc_device.specs.mirror.specs.declared.state.Failing.{Failing}
use Rattle.world_semantics.specs.disc_device.specs.mirror.specs.declared.state.Failing.TheVariants.{Done, AlreadyFailed}
use Rattle.world_semantics.specs.disc_device.specs.mirror.specs.declared.state.Failing.TheVariants.{LastOne}
use Rattle.schedule.specs.declared.event.DriveChange.{DriveChange}
use Rattle.schedule.specs.declared.event.DriveChange.TheVariants.{Break, Revive, Copy}
use Rattle.schedule.specs.declared.event.DriveEvent.{DriveEvent}
use Rattle.world_semantics.specs.tal_tree.specs.declared.site.Kind.{Kind}
use Rattle.world_semantics.specs.tal_tree.specs.declared.site.Kind.TheVariants as kind
use Rattle.world_semantics.specs.tal_tree.specs.declared.site.Site.{Site}
use Rattle.world_semantics.specs.World.{Pair}

-- at the beginning each drive of a disc works: one, or two if it is mirrored. A program has none
abbrev pub states_at_boot : Kind → List DriveState
states_at_boot (kind.Disc sectors mirrored) = replicate (if mirrored then 2 else 1) Working
states_at_boot (kind.Pair program) = replicate 0 Working

-- how the drives of each process stand at the beginning
abbrev pub drives_at_boot : Site → List (List DriveState)
drives_at_boot site = map (λ spec. states_at_boot spec.what) site.processes

-- what an event makes of the drives of a process: they stand otherwise; or nothing, since it can't be done; or nothing,
-- since the last drive that has everything would be lost
pub data Turned : Type 0 where
  Turns : List DriveState → Turned
  Rests : Turned
  Loses : Turned

abbrev pub turned_by_failing : Failing → ℕ → List DriveState → Turned
turned_by_failing Done drive states = Turns (states_failed Done drive states)
turned_by_failing AlreadyFailed drive states = Rests
turned_by_failing LastOne drive states = Loses

-- what a change of a drive makes of two drives, each of so many sectors
abbrev pub turned_by : DriveChange → ℕ → ℕ → List DriveState → Turned
turned_by Break count drive states = turned_by_failing (failing_of states drive) drive states
turned_by Revive count drive states =
    if is_failed (drive_state_at states drive) then Turns (states_revived drive states) else Rests
turned_by Copy count drive states =
    if is_reviving (drive_state_at states drive) then Turns (states_copied count drive states) else Rests

-- whether there are two drives, and this is one of them
abbrev pub is_of_two : ℕ → List DriveState → Bool
is_of_two drive states = length states == 2 && nat_lt drive 2

-- the same of any drives: nothing where they aren't two
abbrev pub outcome_of_drive_change : DriveChange → ℕ → ℕ → List DriveState → Turned
outcome_of_drive_change change count drive states =
    if is_of_two drive states then turned_by change count drive states else Rests

abbrev pub turned_at : DriveEvent → Option Pair → Option (List DriveState) → Turned
turned_at event None states = Rests
turned_at event (Some pair) None = Rests
turned_at event (Some pair) (Some states) =
    outcome_of_drive_change event.change (length pair.sectors) event.drive states

-- what an event makes of the drives of the process that it names
abbrev pub drives_turned : DriveEvent → List Pair → List (List DriveState) → Turned
drives_turned event processes drives =
    turned_at event (slice_get processes event.process) (slice_get drives event.process)

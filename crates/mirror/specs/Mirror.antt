-- A device of one or two drives: what it holds, what each drive holds of it, and what its calls make of the drives.
-- That a disc has two drives with one content, of which one may fail and be revived, is Tandem's; how a write meets a
-- copy that is under way is our own rule.
use Rattle.std.specs.Prelude.{◌≡◌, ℕ, zero, suc, ◌+◌, ◌≤◌, ◌<◌, ◌==◌, ℤ, Bool, true, false, ◌||◌, if◌then◌else◌, nat_lt}
use Rattle.std.specs.Prelude.{List, [], ◌∷◌, All, length, map, take, get_or, slice_get, slice_set, Option, Some, None}
use Rattle.std.specs.Option.{option_map}
use Rattle.mirror.specs.Sectors.{blank, blanks, is_written}
use Rattle.mirror.specs.declared.state.DriveState.{DriveState}
use Rattle.mirror.specs.declared.state.DriveState.TheVariants.{Working, Failed, Reviving}
use Rattle.mirror.specs.declared.state.Failing.{Failing}
use Rattle.mirror.specs.declared.state.Failing.TheVariants.{Done, AlreadyFailed, LastOne}
use Rattle.mirror.specs.declared.stored.Stored.{Stored}
use Rattle.gd_words.specs.declared.limits.TheConstants.{MOST_SECTORS}

-- a drive of a device: how it stands, and the sectors that it has itself
pub record DriveHeld : Type 0 where
  pub state : DriveState
  pub sectors : List Stored

abbrev pub is_working : DriveState → Bool
is_working Working = true
is_working _ = false

-- The content

-- what the device holds: the sectors of the first drive that works
abbrev pub content : List DriveHeld → List Stored
content [] = []
content (held ∷ others) = if is_working held.state then held.sectors else content others

-- what a drive has of a content, by how it stands: all of it where it works, nothing where it failed, and the sectors
-- below the next sector while it is revived
abbrev pub HasOf : List Stored → List Stored → DriveState → Type 0
HasOf all sectors Working = sectors ≡ all
HasOf all sectors Failed = sectors ≡ blanks (length all)
HasOf all sectors (Reviving next) = (next < length all) × (take next sectors ≡ take next all)

-- what a drive is to a content: it has as many sectors, and what its state says
pub record Mirrors (all : List Stored) (held : DriveHeld) : Type 0 where
  pub count : length held.sectors ≡ length all
  pub has : HasOf all held.sectors held.state

abbrev pub state_in : Option DriveHeld → DriveState
state_in None = Failed
state_in (Some held) = held.state

-- how the drive at a place stands; one that isn't there has failed
abbrev pub state_of : List DriveHeld → ℕ → DriveState
state_of drives drive = state_in (slice_get drives drive)

abbrev pub sectors_in : Option DriveHeld → List Stored
sectors_in None = []
sectors_in (Some held) = held.sectors

-- the sectors that the drive at a place has itself
abbrev pub sectors_of : List DriveHeld → ℕ → List Stored
sectors_of drives drive = sectors_in (slice_get drives drive)

-- whether there is a drive that works
abbrev pub is_alive : List DriveHeld → Bool
is_alive [] = false
is_alive (held ∷ others) = is_working held.state || is_alive others

-- what holds of all drives of a device: one of them works, they have 1 to 64 sectors, and each has its part of the
-- content
pub record IsMirror (drives : List DriveHeld) : Type 0 where
  pub alive : is_alive drives ≡ true
  pub some : 1 ≤ length (content drives)
  pub few : length (content drives) ≤ MOST_SECTORS
  pub parts : All (Mirrors (content drives)) drives

-- the drives of a device, of which the second may be lacking
abbrev pub drives_of : DriveHeld → Option DriveHeld → List DriveHeld
drives_of first None = first ∷ []
drives_of first (Some second) = first ∷ second ∷ []

-- the drives where one is changed
abbrev pub drives_with_change : (DriveHeld → DriveHeld) → ℕ → List DriveHeld → List DriveHeld
drives_with_change change drive [] = []
drives_with_change change zero (held ∷ others) = change held ∷ others
drives_with_change change (suc drive) (held ∷ others) = held ∷ drives_with_change change drive others

-- The beginning

-- a drive that works
abbrev pub working : List Stored → DriveHeld
working sectors = record { state = Working; sectors = sectors }

-- the drives at first: each works
abbrev pub all_working : List Stored → Option (List Stored) → List DriveHeld
all_working first second = drives_of (working first) (option_map working second)

-- Writing

-- whether a write on a sector goes to a drive of this state
abbrev pub takes_write : ℕ → DriveState → Bool
takes_write sector Working = true
takes_write sector Failed = false
takes_write sector (Reviving next) = nat_lt sector next

-- a drive after a write that is done
abbrev pub after_write : ℕ → Stored → DriveHeld → DriveHeld
after_write sector stored held =
    if takes_write sector held.state then record held { sectors = slice_set held.sectors sector stored } else held

-- the drives after a write, which changes nothing where the content has it already
abbrev pub drives_after_write : List DriveHeld → ℕ → List ℤ → ℕ → List DriveHeld
drives_after_write drives sector words number =
    if is_written (content drives) sector number then drives else map
    (after_write sector (record { words = words; number = number })) drives

-- Failing and reviving

-- a drive that failed: it is wiped
abbrev pub after_fail : DriveHeld → DriveHeld
after_fail held = record { state = Failed; sectors = blanks (length held.sectors) }

-- whether a drive can fail: one that failed before can't, and where the other drive doesn't work it has the last of the
-- content
abbrev pub failing_by : DriveState → DriveState → Failing
failing_by Failed other = AlreadyFailed
failing_by Working other = if is_working other then Done else LastOne
failing_by (Reviving next) other = if is_working other then Done else LastOne

-- the other of two drives
abbrev pub other_than : ℕ → ℕ
other_than zero = 1
other_than (suc drive) = 0

abbrev pub outcome_of_failing : List DriveHeld → ℕ → Failing
outcome_of_failing drives drive = failing_by (state_of drives drive) (state_of drives (other_than drive))

-- the drives after that came of failing one
abbrev pub drives_after_fail : Failing → ℕ → List DriveHeld → List DriveHeld
drives_after_fail Done drive drives = drives_with_change after_fail drive drives
drives_after_fail AlreadyFailed drive drives = drives
drives_after_fail LastOne drive drives = drives

abbrev pub is_failed : DriveState → Bool
is_failed Failed = true
is_failed _ = false

-- a drive that is revived, and of which nothing was copied yet: it is wiped
abbrev pub after_revive : DriveHeld → DriveHeld
after_revive held = record { state = Reviving 0; sectors = blanks (length held.sectors) }

-- the drives after one was revived, where it had failed
abbrev pub drives_after_revive : ℕ → List DriveHeld → List DriveHeld
drives_after_revive drive drives =
    if is_failed (state_of drives drive) then drives_with_change after_revive drive drives else drives

-- Copying

abbrev pub is_reviving : DriveState → Bool
is_reviving (Reviving next) = true
is_reviving _ = false

-- the state after the sectors below the next one were copied, of so many
abbrev pub state_at : ℕ → ℕ → DriveState
state_at next count = if next == count then Working else Reviving next

-- a drive after its next sector was copied
abbrev pub after_copy : ℕ → Stored → DriveHeld → DriveHeld
after_copy next stored held =
    record { state = state_at (next + 1) (length held.sectors); sectors = slice_set held.sectors next stored }

abbrev pub copied_by : DriveState → ℕ → List DriveHeld → List DriveHeld
copied_by (Reviving next) drive drives =
    drives_with_change (after_copy next (get_or (content drives) next blank)) drive drives
copied_by Working drive drives = drives
copied_by Failed drive drives = drives

-- the drives after the next sector of one that is revived was put on it as the content has it
abbrev pub drives_after_copy : ℕ → List DriveHeld → List DriveHeld
drives_after_copy drive drives = copied_by (state_of drives drive) drive drives

-- How the drives of a device stand after its calls.
use Rattle.std.proofs.Common.{◌≡◌, ℕ, zero, suc, ◌+◌, ◌<◌, ◌==◌, ℤ, Bool, true, false, if◌then◌else◌, nat_lt}
use Rattle.std.proofs.Common.{List, [], ◌∷◌, length, map, slice_get, slice_set, get_or, Option, Some, None}
use Rattle.std.proofs.Common.{refl, ap, ap₂, sym, subst, ◌∙◌}
use Rattle.std.specs.Option.{option_map}
use Rattle.std.proofs.lemmas.Option.{slice_get-map}
use Rattle.mirror.specs.Mirror.{DriveHeld, IsMirror, Mirrors, after_copy, after_fail, after_revive}
use Rattle.mirror.specs.Mirror.{after_write, drives_with_change}
use Rattle.mirror.specs.Mirror.{content, drives_after_copy, copied_by, drives_after_fail, outcome_of_failing}
use Rattle.mirror.specs.Mirror.{failing_by, is_failed, is_reviving}
use Rattle.mirror.specs.Mirror.{other_than, drives_after_revive, state_at, state_in, state_of, takes_write}
use Rattle.mirror.specs.Mirror.{drives_after_write}
use Rattle.mirror.specs.Sectors.{blank, is_written}
use Rattle.mirror.specs.States.{failing_of, drive_state_at, standing_in, states_copied, states_copied_by, states_failed}
use Rattle.mirror.specs.States.{states_of, states_revived, states_revived_by}
use Rattle.mirror.specs.declared.state.DriveState.{DriveState}
use Rattle.mirror.specs.declared.state.DriveState.TheVariants.{Working, Failed, Reviving}
use Rattle.mirror.specs.declared.state.Failing.{Failing}
use Rattle.mirror.specs.declared.state.Failing.TheVariants.{Done, AlreadyFailed, LastOne}
use Rattle.mirror.specs.declared.stored.Stored.{Stored}
use Rattle.mirror.proofs.Mirrors.{part-at, state-written}

-- the state of a drive is that of its place
pub standing-is : (drives : List DriveHeld) (drive : ℕ)
    → state_of drives drive ≡ drive_state_at (states_of drives) drive
standing-is drives drive =
    by (slice_get drives drive)
    ∙ ap standing_in (sym (slice_get-map (λ (held : DriveHeld). held.state) drives drive))
  where
    by : (found : Option DriveHeld) → state_in found ≡ standing_in (option_map (λ (held : DriveHeld). held.state) found)
    by None = refl
    by (Some held) = refl

pub failing-is : (drives : List DriveHeld) (drive : ℕ)
    → outcome_of_failing drives drive ≡ failing_of (states_of drives) drive
failing-is drives drive = ap₂ failing_by (standing-is drives drive) (standing-is drives (other_than drive))

-- a write leaves how the drives stand
pub states-written : (drives : List DriveHeld) (sector : ℕ) (words : List ℤ) (number : ℕ)
    → states_of (drives_after_write drives sector words number) ≡ states_of drives
states-written drives sector words number = by (is_written (content drives) sector number)
  where
    stored : Stored
    stored = record { words = words; number = number }

    all : (some : List DriveHeld) → states_of (map (after_write sector stored) some) ≡ states_of some
    all [] = refl
    all (held ∷ others) = ap₂ (λ (s : DriveState) (ss : List DriveState). s ∷ ss) (state-written sector stored held)
        (all others)

    by : (b : Bool) → states_of (if b then drives else map (after_write sector stored) drives) ≡ states_of drives
    by true = refl
    by false = all drives

-- where one drive changes, its state alone does
states-changed : (change : DriveHeld → DriveHeld) (state : DriveState) (drives : List DriveHeld) (drive : ℕ)
    → ((held : DriveHeld) → slice_get drives drive ≡ Some held → (change held).state ≡ state)
    → states_of (drives_with_change change drive drives) ≡ slice_set (states_of drives) drive state
states-changed change state [] drive is = refl
states-changed change state (held ∷ others) zero is = ap (λ (s : DriveState). s ∷ states_of others) (is held refl)
states-changed change state (held ∷ others) (suc drive) is =
    ap (λ (ss : List DriveState). held.state ∷ ss) (states-changed change state others drive is)

pub states-failed : (came : Failing) (drive : ℕ) (drives : List DriveHeld)
    → states_of (drives_after_fail came drive drives) ≡ states_failed came drive (states_of drives)
states-failed Done drive drives = states-changed after_fail Failed drives drive (λ held at. refl)
states-failed AlreadyFailed drive drives = refl
states-failed LastOne drive drives = refl

pub states-revived : (drive : ℕ) (drives : List DriveHeld)
    → states_of (drives_after_revive drive drives) ≡ states_revived drive (states_of drives)
states-revived drive drives =
    by (is_failed (state_of drives drive))
    ∙ ap (λ (s : DriveState). states_revived_by (is_failed s) drive (states_of drives)) (standing-is drives drive)
  where
    by : (b : Bool) → states_of (if b then drives_with_change after_revive drive drives else drives)
        ≡ states_revived_by b drive (states_of drives)
    by true = states-changed after_revive (Reviving 0) drives drive (λ held at. refl)
    by false = refl

pub states-copied : (drive : ℕ) (drives : List DriveHeld) → IsMirror drives
    → states_of (drives_after_copy drive drives) ≡ states_copied (length (content drives)) drive (states_of drives)
states-copied drive drives mirror =
    by (state_of drives drive)
    ∙ ap (λ (s : DriveState). states_copied_by s (length (content drives)) drive (states_of drives))
    (standing-is drives drive)
  where
    by : (s : DriveState) → states_of (copied_by s drive drives)
        ≡ states_copied_by s (length (content drives)) drive (states_of drives)
    by Working = refl
    by Failed = refl
    by (Reviving next) =
        states-changed (after_copy next (get_or (content drives) next blank))
        (state_at (next + 1) (length (content drives))) drives drive
        (λ held at. ap (state_at (next + 1)) (part-at (content drives) drives drive held at mirror.parts).count)

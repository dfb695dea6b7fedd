-- The blank copies that a process gets in a processor which is loaded again. The rules are those of the world of
-- copies.
use Rattle.std.specs.Prelude.{ℕ, ◌+◌, ◌==◌, Bool, true, false, slice_get, Option, Some, None}
use Rattle.std.specs.Option.{option_map}
use Rattle.node_copies.specs.computed_changes.specs.Fitting.{depths_of}
use Rattle.world_semantics.specs.Core.{Core}
use Rattle.world_semantics.specs.Rules.{new_core, blank_copy, reloaded_at, reloaded_by}
use Rattle.world_semantics.specs.World.{Copy}
use Rattle.node_copies.specs.Seen.{CopyAndDepths}
use Rattle.process_copies.specs.Seen.{Placed}
use Rattle.process_copies.specs.declared.reloading.BlankCopies.{BlankCopies}

-- the core of a process at its beginning
abbrev pub core_begun : Placed → Core
core_begun placed =
    new_core placed.site placed.number (slice_get placed.site.processes placed.number) placed.pair.first.core

-- the blank copy of a process in a processor, in the era after this one
abbrev pub blank_after : ℕ → ℕ → Placed → CopyAndDepths
blank_after processor era placed = record {
  copy = blank_copy processor (era + 1) (core_begun placed);
  depths = depths_of placed.site placed.number;
}

-- a copy of a process after a processor was loaded again, if it was there
abbrev pub blank_if : Bool → Copy → Placed → Option CopyAndDepths
blank_if false copy placed = None
blank_if true copy placed = Some (record { copy = copy; depths = depths_of placed.site placed.number })

-- the blank copies of a process in whose first copy's, second copy's, both copies' or no copy's processor one was: the
-- copies that it has there after the load
abbrev pub blanks_by : Placed → Bool → Bool → BlankCopies
blanks_by placed first second = record {
  first = blank_if first (reloaded_by (core_begun placed) placed.pair first second).first placed;
  second = blank_if second (reloaded_by (core_begun placed) placed.pair first second).second placed;
}

-- the blank copies that a process gets when a processor is loaded again: one for each of its copies that was there
abbrev pub blanks_of : ℕ → Placed → BlankCopies
blanks_of processor placed =
    blanks_by placed (placed.pair.first.processor == processor) (placed.pair.second.processor == processor)

-- the blank copy that a process gets, if it gets one
abbrev pub copy_if : Option CopyAndDepths → Option Copy
copy_if blank = option_map (λ one. one.copy) blank

-- a process after a processor was loaded again
abbrev pub placed_reloaded : ℕ → Placed → Placed
placed_reloaded processor placed =
    record placed {
      pair = reloaded_at placed.site processor placed.number (slice_get placed.site.processes placed.number)
          placed.pair;
    }

-- The blank copies of a process, and that a process which has them is loaded again.
use Rattle.std.proofs.Common.{◌≡◌, ℕ, ◌+◌, ◌==◌, Bool, true, false, List, length, map, Option, Some, slice_get, refl}
use Rattle.std.proofs.Common.{ap, sym, ◌∙◌}
use Rattle.std.specs.Option.{IfSome}
use Rattle.tal_tree.specs.declared.site.OpenerSpec.{OpenerSpec}
use Rattle.tal_tree.specs.declared.site.ProcessSpec.{ProcessSpec}
use Rattle.process_semantics.specs.Process.{start_of}
use Rattle.plain_semantics.specs.Openers.{files_of, openers_of}
use Rattle.node_copies.specs.computed_changes.specs.Fitting.{depths_of}
use Rattle.world_semantics.specs.Core.{Core, core_at_start}
use Rattle.world_semantics.specs.Rules.{new_core, blank_copy, pair_with_blanks, reloaded_by}
use Rattle.node_copies.specs.Seen.{CopyAndDepths}
use Rattle.process_copies.specs.Reloading.{blank_after, blanks_by, blanks_of, copy_if, core_begun}
use Rattle.process_copies.specs.Reloading.{placed_reloaded}
use Rattle.process_copies.specs.Seen.{Placed}
use Rattle.process_copies.specs.declared.reloading.BlankCopies.{BlankCopies}

-- a blank copy at the start, with these openers
abbrev pub BlankStarted : ProcessSpec → ℕ → ℕ → List OpenerSpec → CopyAndDepths
BlankStarted spec processor era openers = record {
  copy = blank_copy processor era (core_at_start (start_of spec.what) (length (files_of spec.what)) openers);
  depths = map (λ (opener : OpenerSpec). opener.depth) openers;
}

-- a blank copy of this process with this core
abbrev blank_with : Placed → ℕ → ℕ → Core → CopyAndDepths
blank_with placed processor era core =
    record { copy = blank_copy processor era core; depths = depths_of placed.site placed.number }

pub blank-is : (placed : Placed) (processor era : ℕ) (spec : ProcessSpec) (openers : List OpenerSpec)
    (one : CopyAndDepths)
    → slice_get placed.site.processes placed.number ≡ Some spec
    → openers ≡ openers_of placed.site placed.number → one ≡ BlankStarted spec processor (era + 1) openers
    → one ≡ blank_after processor era placed
blank-is placed processor era spec openers one there all is =
    is ∙ ap (BlankStarted spec processor (era + 1)) all
    ∙ ap (blank_with placed processor (era + 1))
    (ap (λ (found : Option ProcessSpec). new_core placed.site placed.number found placed.pair.first.core) (sym there))

-- The depths of the blank copies are those of the process

abbrev IsDeep : Placed → CopyAndDepths → Type 0
IsDeep placed one = one.depths ≡ depths_of placed.site placed.number

first-by : (placed : Placed) (one other : Bool) → IfSome (blanks_by placed one other).first (IsDeep placed)
first-by placed false false = tt
first-by placed false true = tt
first-by placed true false = refl
first-by placed true true = refl

second-by : (placed : Placed) (one other : Bool) → IfSome (blanks_by placed one other).second (IsDeep placed)
second-by placed false false = tt
second-by placed false true = refl
second-by placed true false = tt
second-by placed true true = refl

pub first-deep : (processor : ℕ) (placed : Placed) → IfSome (blanks_of processor placed).first (IsDeep placed)
first-deep processor placed =
    first-by placed (placed.pair.first.processor == processor) (placed.pair.second.processor == processor)

pub second-deep : (processor : ℕ) (placed : Placed) → IfSome (blanks_of processor placed).second (IsDeep placed)
second-deep processor placed =
    second-by placed (placed.pair.first.processor == processor) (placed.pair.second.processor == processor)

-- The process with them

abbrev pub with_blanks : BlankCopies → Placed → Placed
with_blanks blanks placed =
    record placed { pair = pair_with_blanks (copy_if blanks.first) (copy_if blanks.second) placed.pair }

reloaded-by : (placed : Placed) (one other : Bool)
    → with_blanks (blanks_by placed one other) placed
    ≡ record placed { pair = reloaded_by (core_begun placed) placed.pair one other }
reloaded-by placed false false = refl
reloaded-by placed false true = refl
reloaded-by placed true false = refl
reloaded-by placed true true = refl

pub reloaded-is : (processor : ℕ) (placed : Placed) (blanks : BlankCopies) → blanks ≡ blanks_of processor placed
    → with_blanks blanks placed ≡ placed_reloaded processor placed
reloaded-is processor placed blanks is =
    ap (λ (blanks : BlankCopies). with_blanks blanks placed) is
    ∙ reloaded-by placed (placed.pair.first.processor == processor) (placed.pair.second.processor == processor)

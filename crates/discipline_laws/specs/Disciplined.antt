-- The checkpoint discipline: four laws on what a process does since its last checkpoint, which are all that a copy that
-- takes over stands on.
use Rattle.std.specs.Prelude.{◌≡◌, ◌≤◌, ℕ, ℤ, List, [], ◌∷◌, ◌++◌, length, slice_get, Some}
use Rattle.gd_words.specs.declared.device.DeviceCall.{DeviceCall}
use Rattle.tal_tree.specs.declared.program.FileUse.{FileUse}
use Rattle.tal_tree.specs.declared.site.ProcessSpec.{ProcessSpec}
use Rattle.tal_tree.specs.declared.site.Site.{Site}
use Rattle.process_semantics.specs.declared.point.Point.TheVariants.{AtCheckpoint}
use Rattle.process_semantics.specs.Process.{point}
use Rattle.checkpoint_laws.specs.plain_semantics.specs.Openers.{files_of}
use Rattle.checkpoint_laws.specs.world_semantics.specs.Core.{Core, Deed, Went, Checkpointed, Took, Acted, after_passing}
use Rattle.checkpoint_laws.specs.world_semantics.specs.Core.{carried_image, put_in}
use Rattle.process_histories.specs.Bounds.{AreBounded}
use Rattle.process_histories.specs.Histories.{HasDone}
use Rattle.process_histories.specs.Words.{requests_on}

abbrev pub IsCheckpoint : Deed → Type 0
IsCheckpoint Checkpointed = Unit {0}
IsCheckpoint _ = ⊥

-- none of the deeds is a checkpoint
abbrev pub AreUncheckpointed : List Deed → Type 0
AreUncheckpointed [] = Unit {0}
AreUncheckpointed (deed ∷ deeds) = (IsCheckpoint deed → ⊥) × AreUncheckpointed deeds

-- all deeds are steps inside the process
abbrev pub AreInner : List Deed → Type 0
AreInner [] = Unit {0}
AreInner (Went ∷ deeds) = AreInner deeds
AreInner (_ ∷ deeds) = ⊥

abbrev pub IsCall : Deed → Type 0
IsCall (Acted call found) = Unit {0}
IsCall _ = ⊥

-- none of the deeds is a call of the device
abbrev pub AreIdle : List Deed → Type 0
AreIdle [] = Unit {0}
AreIdle (deed ∷ deeds) = (IsCall deed → ⊥) × AreIdle deeds

-- a process keeps the discipline: what it carries at a checkpoint, put into any of its cores since the checkpoint
-- before, gives its core after the checkpoint; after a take it does nothing but inner steps until its next checkpoint;
-- between two checkpoints it calls its device at most once; and it asks on a file at most as often as replies are kept
-- for it
pub record IsDisciplined (site : Site) (number : ℕ) (spec : ProcessSpec) : Type 0 where
  pub resume : (since before : List Deed) (core stale : Core) → HasDone site number spec (since ++ before) core
      → AreUncheckpointed since
      → AreBounded (since ++ before) → point core.state ≡ AtCheckpoint → HasDone site number spec before stale
      → put_in stale (carried_image core) ≡ Some (after_passing core)
  pub quiet : (since before : List Deed) (place : ℕ) (words : List ℤ) (core : Core)
      → HasDone site number spec (since ++ Took place words ∷ before) core
      → AreUncheckpointed since → AreInner since
  pub once : (since before : List Deed) (call : DeviceCall) (found : List ℤ) (core : Core)
      → HasDone site number spec (since ++ Acted call found ∷ before) core → AreUncheckpointed since → AreIdle since
  pub depth : (since before : List Deed) (file : ℕ) (use_of : FileUse) (core : Core)
      → HasDone site number spec (since ++ before) core
      → AreUncheckpointed since → slice_get (files_of spec.what) file ≡ Some use_of
      → length (requests_on file since) ≤ use_of.depth

-- The steps of a program keep it sound.
use Rattle.std.proofs.Common.{◌≡◌, ◌≤◌, ℤ, Bool, true, false, List, length, Some, subst, sym}
use Rattle.std.specs.Bool.{OnTrue, OnFalse}
use Rattle.tal_tree.specs.declared.program.Program.{Program}
use Rattle.tal_tree.specs.declared.site.Kind.TheVariants.{Pair}
use Rattle.process_semantics.specs.Calls.{after_answered, after_got, after_checkpoint, after_took}
use Rattle.process_semantics.specs.Image.{restored_program}
use Rattle.process_semantics.specs.Points.{point_of}
use Rattle.process_semantics.specs.Process.{Runs}
use Rattle.process_semantics.specs.State.{Execution, ProgramState, start}
use Rattle.process_semantics.specs.Steps.{inner}
use Rattle.process_semantics.specs.declared.point.Point.TheVariants.{Take, Await, Answer, AtCheckpoint}
use Rattle.tal_table.specs.whole_states.specs.Processes.{IsWholeProcess}
use Rattle.tal_table.specs.whole_states.specs.Whole.{IsWhole}
use Rattle.tal_table.specs.whole_states.proofs.Calls.{took-awake}
use Rattle.tal_table.specs.whole_states.proofs.Processes.{stays-whole, start-process, inner-process, got-process}
use Rattle.tal_table.specs.whole_states.proofs.Processes.{answered-process}
use Rattle.tal_table.specs.whole_states.proofs.Processes.{checkpointed-process}
use Rattle.tal_table.specs.process_images.proofs.Programs.{program-stood}
use Rattle.tal_interp.specs.Sound.{IsLoadable, IsSound}
use Rattle.tal_table.specs.process_images.proofs.FewFrames.{frames-few}

pub start-sound : (program : Program) → IsLoadable program
    → IsSound (record { program = program; state = start program })
start-sound program loadable = record {
  loaded = loadable;
  whole = (stays-whole (Runs program (start program)) (start-process (Pair program) loadable.regular)).1;
}

module _ (e : Execution) (sound : IsSound e) where
  whole : IsWholeProcess (Runs e.program e.state)
  whole = (sound.loaded.regular, sound.whole)

  keeps : (s : ProgramState) → IsWholeProcess (Runs e.program s) → IsSound (record e { state = s })
  keeps s is = record { loaded = sound.loaded; whole = is.1 }

  pub inner-sound : IsSound (record e { state = inner e.program e.state })
  inner-sound =
      keeps _ (stays-whole (Runs e.program (inner e.program e.state)) (inner-process (Runs e.program e.state) whole))

  pub took-sound : (words : List ℤ) → point_of e.program e.state ≡ Take
      → IsSound (record e { state = after_took e.program e.state words })
  took-sound words at =
      keeps _ (stays-whole (Runs e.program (after_took e.program e.state words))
      (sound.loaded.regular, took-awake e.program e.state words at sound.whole))

  pub got-sound : (words : List ℤ) → point_of e.program e.state ≡ Await
      → IsSound (record e { state = after_got e.program e.state words })
  got-sound words at =
      keeps _ (stays-whole (Runs e.program (after_got e.program e.state words))
      (got-process (Runs e.program e.state) words at whole))

  pub answered-sound : point_of e.program e.state ≡ Answer → IsSound (record e { state = after_answered e.state })
  answered-sound at = keeps _ (stays-whole (Runs e.program (after_answered e.state))
      (answered-process (Runs e.program e.state) at whole))

  pub checkpointed-sound : point_of e.program e.state ≡ AtCheckpoint → IsSound
      (record e { state = after_checkpoint e.state })
  checkpointed-sound at = keeps _ (stays-whole (Runs e.program (after_checkpoint e.state))
      (checkpointed-process (Runs e.program e.state) at whole))

  pub few-frames : length e.state.frames ≤ length e.program.procedures
  few-frames = frames-few e.program sound.loaded.ordered e.state.frames sound.whole.frames

-- an image that was put into a program, or wasn't
pub applied-sound : (applied : Bool) (e new : Execution) (hand : Bool) (words : List ℤ) → IsSound e
    → new.program ≡ e.program
    → OnTrue applied (restored_program e.program e.state hand words ≡ Some new.state) → OnFalse applied (new ≡ e)
    → IsSound new
applied-sound true e new hand words sound same restored unchanged = record {
  loaded = subst IsLoadable (sym same) sound.loaded;
  whole = subst (λ (program : Program). IsWhole program new.state) (sym same)
      (program-stood e.program e.state new.state hand words sound.whole.globals restored).is;
}
applied-sound false e new hand words sound same restored unchanged = subst IsSound (sym unchanged) sound

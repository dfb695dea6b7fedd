-- With which step each process ended, as it is noted over the steps of a run. Our own.
use Rattle.std.specs.Option.{option_map, option_and_then}
use Rattle.std.specs.Prelude.{ℕ, ℤ, Bool, true, false, if◌then◌else◌, List, [], slice_get, slice_set, Option, Some}
use Rattle.std.specs.Prelude.{None}
use Rattle.machine_views.specs.Views.{acting_in, image_of_everything}
use Rattle.noted_rules.specs.Noted.{Noting}
use Rattle.process_semantics.specs.Image.{image_of}
use Rattle.process_semantics.specs.Process.{ProcessState, in_hand, point}
use Rattle.process_semantics.specs.declared.point.Point.{Point}
use Rattle.process_semantics.specs.declared.point.Point.TheVariants as point
use Rattle.program_ends.specs.Ends.{end_of_program}
use Rattle.program_ends.specs.declared.ending.LastStep.{LastStep}
use Rattle.schedule.specs.declared.event.Event.{Event}
use Rattle.schedule.specs.declared.event.Event.TheVariants as event
use Rattle.tal_tree.specs.declared.site.Kind.{Kind}
use Rattle.tal_tree.specs.declared.site.Kind.TheVariants as kind
use Rattle.tal_tree.specs.declared.site.ProcessSpec.{ProcessSpec}
use Rattle.tal_tree.specs.declared.site.Site.{Site}
use Rattle.world_semantics.specs.World.{World}
use Rattle.noted_runs.specs.declared.steps.Stood.{Stood}

-- Where a process stands

-- the state of the process of a number, that of its copy that acts
abbrev pub state_in : World → ℕ → Option ProcessState
state_in w process =
    option_map (λ copy. copy.core.state) (option_and_then acting_in (slice_get w.processes process))

abbrev pub is_inner : Point → Bool
is_inner point.Inner = true
is_inner point.Take = false
is_inner point.Ask = false
is_inner point.Await = false
is_inner point.Answer = false
is_inner point.AtCheckpoint = false
is_inner point.Device = false
is_inner point.Ended = false

abbrev pub has_ended : Point → Bool
has_ended point.Ended = true
has_ended point.Inner = false
has_ended point.Take = false
has_ended point.Ask = false
has_ended point.Await = false
has_ended point.Answer = false
has_ended point.AtCheckpoint = false
has_ended point.Device = false

-- where a process stands whose next step is inside it: only such a step ends it
abbrev pub stood_at : ProcessState → Option Stood
stood_at s =
    if is_inner (point s) then Some (record { words = image_of [] s; in_hand = in_hand s }) else None

abbrev pub stood_by : Option ProcessState → Option Stood
stood_by s = option_and_then stood_at s

-- the image with everything of a process that has ended. A step that traps changes no item
abbrev pub everything_at_end : Option ProcessState → Option (List ℤ)
everything_at_end None = None
everything_at_end (Some s) = if has_ended (point s) then Some (image_of_everything s) else None

-- Ends

-- the step with which a process of a kind ended that stood so, by its image with everything at that end; a disc never
-- ends
abbrev pub end_of_kind : Kind → Stood → List ℤ → Option LastStep
end_of_kind (kind.Disc sectors mirrored) stood everything = None
end_of_kind (kind.Pair program) stood everything =
    Some (end_of_program program stood.words stood.in_hand everything)

abbrev pub end_of_spec : Option ProcessSpec → Option Stood → List ℤ → Option LastStep
end_of_spec None stood everything = None
end_of_spec (Some spec) None everything = None
end_of_spec (Some spec) (Some stood) everything = end_of_kind spec.what stood everything

-- the steps with which the processes of a site ended, each in its place, once one more has
abbrev pub with_end : ℕ → Option LastStep → List (Option LastStep) → List (Option LastStep)
with_end process None steps = steps
with_end process (Some step) steps = slice_set steps process (Some step)

-- after a step of a process that stood so before it, and has ended by it with this image or hasn't
abbrev pub ends_after : Site → ℕ → Option Stood → Option (List ℤ) → List (Option LastStep) → List (Option LastStep)
ends_after site process stood None steps = steps
ends_after site process stood (Some everything) steps =
    with_end process (end_of_spec (slice_get site.processes process) stood everything) steps

-- Notes

-- what is noted: the site that is played, and of each of its processes the step with which it ended, if it has
pub record Ends : Type 0 where
  pub site : Site
  pub steps : List (Option LastStep)

abbrev pub ends_of_run : ℕ → World → World → Ends → Ends
ends_of_run process before after ends = record ends {
  steps = ends_after ends.site process (stood_by (state_in before process))
      (everything_at_end (state_in after process)) ends.steps;
}

-- the process of which an event is a step
abbrev pub stepped : Event → Option ℕ
stepped (event.Run process) = Some process
stepped (event.Enter terminal) = None
stepped (event.Deliver bus k) = None
stepped (event.Lose bus k) = None
stepped (event.Repeat bus k) = None
stepped (event.Tick node) = None
stepped (event.Fail processor) = None
stepped (event.Reload processor) = None
stepped (event.Drive one) = None

abbrev pub ends_of_step : Option ℕ → World → World → Ends → Ends
ends_of_step None before after ends = ends
ends_of_step (Some process) before after ends = ends_of_run process before after ends

-- over an event that is a step of a process
abbrev pub noting_ends : Noting Ends
noting_ends event before after ends = ends_of_step (stepped event) before.world after.world ends

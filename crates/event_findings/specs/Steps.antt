-- The step that a process made, by the views before it and after it.
use Rattle.std.specs.Prelude.{ℕ, if◌then◌else◌, List, slice_get, Option, Some, None}
use Rattle.image_places.specs.Running.{next_in}
use Rattle.machine_views.specs.Views.{acting_of}
use Rattle.machine_views.specs.declared.views.CopyView.{CopyView}
use Rattle.process_semantics.specs.declared.point.Point.{Point}
use Rattle.process_semantics.specs.declared.point.Point.TheVariants as point
use Rattle.tal_tree.specs.declared.program.Program.{Program}
use Rattle.tal_tree.specs.declared.site.Kind.{Kind}
use Rattle.tal_tree.specs.declared.site.Kind.TheVariants as kind
use Rattle.tal_tree.specs.declared.site.ProcessSpec.{ProcessSpec}
use Rattle.tal_tree.specs.declared.site.Site.{Site}
use Rattle.trace_lines.specs.declared.finding.Finding.{Finding}
use Rattle.trace_lines.specs.declared.finding.Finding.TheVariants as finding

-- Statements

-- the number of what a copy makes next that stands at this point. At a checkpoint its image is of the state after it,
-- and tells another one
abbrev pub statement_at : Program → CopyView → Point → Option ℕ
statement_at program copy point.AtCheckpoint = None
statement_at program copy point.Ended = None
statement_at program copy point.Inner = Some (next_in program copy.state)
statement_at program copy point.Take = Some (next_in program copy.state)
statement_at program copy point.Ask = Some (next_in program copy.state)
statement_at program copy point.Await = Some (next_in program copy.state)
statement_at program copy point.Answer = Some (next_in program copy.state)
statement_at program copy point.Device = Some (next_in program copy.state)

-- a disc makes no statements
abbrev pub statement_in : Kind → CopyView → Option ℕ
statement_in (kind.Disc sectors mirrored) copy = None
statement_in (kind.Pair program) copy = statement_at program copy copy.point

abbrev pub statement_by : Option ProcessSpec → CopyView → Option ℕ
statement_by None copy = None
statement_by (Some spec) copy = statement_in spec.what copy

-- the number of what a copy makes next in its program, if its image tells it
abbrev pub statement_of : Site → CopyView → Option ℕ
statement_of site copy = statement_by (slice_get site.processes copy.process) copy

-- Steps

-- where a process stands still that was to run: one that has sent a checkpoint stands as at its checkpoint
abbrev pub still_of : Option CopyView → Option Finding
still_of None = None
still_of (Some copy) = Some (finding.StandsStill (if copy.sent then point.AtCheckpoint else copy.point))

-- at its checkpoint a process sends it, or goes on behind it
abbrev pub checkpoint_step : CopyView → Finding
checkpoint_step after = if after.sent then finding.SendsCheckpoint after.number else finding.PassesCheckpoint

abbrev pub made : ℕ → Point → Option ℕ → Finding
made process stood None = finding.DiscGoesOn stood
made process stood (Some statement) = finding.Makes process statement

-- and elsewhere it ends such a checkpoint first, or sends one with everything if it has to
abbrev pub elsewhere_step : Site → ℕ → CopyView → CopyView → Finding
elsewhere_step site process before after =
    if before.sent then finding.EndsSending
    else if before.renewal then finding.SendsEverything after.number
    else made process before.point (statement_of site before)

abbrev pub step_at : Site → ℕ → CopyView → CopyView → Point → Finding
step_at site process before after point.AtCheckpoint = checkpoint_step after
step_at site process before after point.Inner = elsewhere_step site process before after
step_at site process before after point.Take = elsewhere_step site process before after
step_at site process before after point.Ask = elsewhere_step site process before after
step_at site process before after point.Await = elsewhere_step site process before after
step_at site process before after point.Answer = elsewhere_step site process before after
step_at site process before after point.Device = elsewhere_step site process before after
step_at site process before after point.Ended = elsewhere_step site process before after

abbrev pub step_between : Site → ℕ → Option CopyView → Option CopyView → Option Finding
step_between site process (Some before) (Some after) = Some (step_at site process before after before.point)
step_between site process (Some before) None = None
step_between site process None after = None

-- the step of a process between the copies before it and after it
abbrev pub step_found : Site → ℕ → List CopyView → List CopyView → Option Finding
step_found site process before after =
    step_between site process (acting_of process before) (acting_of process after)

-- The words of globals that a process set, by the views before its step and after it.
use Rattle.std.specs.Prelude.{ℕ, List, [], map, slice_get, Option, Some, None}
use Rattle.global_changes.specs.Changes.{words_set}
use Rattle.global_changes.specs.declared.changes.WordSet.{WordSet}
use Rattle.machine_views.specs.declared.views.CopyView.{CopyView}
use Rattle.machine_views.specs.declared.views.View.{View}
use Rattle.schedule.specs.declared.event.Event.{Event}
use Rattle.schedule.specs.declared.event.Event.TheVariants.{Run, Enter, Deliver, Lose, Repeat, Tick, Fail, Reload}
use Rattle.schedule.specs.declared.event.Event.TheVariants.{Drive}
use Rattle.tal_tree.specs.declared.site.Kind.{Kind}
use Rattle.tal_tree.specs.declared.site.Kind.TheVariants as kind
use Rattle.tal_tree.specs.declared.site.ProcessSpec.{ProcessSpec}
use Rattle.tal_tree.specs.declared.site.Site.{Site}
use Rattle.trace_lines.specs.declared.finding.Finding.{Finding}
use Rattle.trace_lines.specs.declared.finding.Finding.TheVariants as finding
use Rattle.machine_views.specs.Views.{acting_of}

abbrev pub set_by : ℕ → WordSet → Finding
set_by process set = finding.Sets process set.item set.place set.value

abbrev pub sets_in : ℕ → Kind → CopyView → CopyView → List Finding
sets_in process (kind.Disc sectors mirrored) before after = []
sets_in process (kind.Pair program) before after =
    map (set_by process) (words_set program before.state after.state)

abbrev pub sets_between : ℕ → Kind → Option CopyView → Option CopyView → List Finding
sets_between process what (Some before) (Some after) = sets_in process what before after
sets_between process what (Some before) None = []
sets_between process what None after = []

abbrev pub sets_by : ℕ → Option ProcessSpec → List CopyView → List CopyView → List Finding
sets_by process None before after = []
sets_by process (Some spec) before after =
    sets_between process spec.what (acting_of process before) (acting_of process after)

-- what the process set that runs
abbrev pub sets_found : Site → Event → View → View → List Finding
sets_found site (Run process) before after =
    sets_by process (slice_get site.processes process) before.copies after.copies
sets_found site (Enter terminal) before after = []
sets_found site (Deliver bus k) before after = []
sets_found site (Lose bus k) before after = []
sets_found site (Repeat bus k) before after = []
sets_found site (Tick node) before after = []
sets_found site (Fail processor) before after = []
sets_found site (Reload processor) before after = []
sets_found site (Drive one) before after = []

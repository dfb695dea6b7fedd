-- What changed in the world, by the views before an event and after it.
use Rattle.std.specs.Prelude.{ℕ, ◌==◌, ◌&&◌, Bool, if◌then◌else◌, nat_lt, List, [], ◌∷◌, ◌++◌, flat_map, slice_get}
use Rattle.std.specs.Prelude.{option_to_list, Option, Some, None}
use Rattle.std.specs.List.{list_any}
use Rattle.std.specs.Option.{option_map}
use Rattle.gd_words.specs.declared.message.Request.{Request}
use Rattle.machine_views.specs.declared.views.CopyView.{CopyView}
use Rattle.machine_views.specs.declared.views.DownView.{DownView}
use Rattle.machine_views.specs.declared.views.TerminalView.{TerminalView}
use Rattle.machine_views.specs.declared.views.View.{View}
use Rattle.schedule.specs.declared.event.Event.{Event}
use Rattle.schedule.specs.declared.event.Event.TheVariants.{Run, Enter, Deliver, Lose, Repeat, Tick, Fail, Reload}
use Rattle.schedule.specs.declared.event.Event.TheVariants.{Drive}
use Rattle.tal_tree.specs.declared.site.Site.{Site}
use Rattle.trace_lines.specs.declared.finding.Finding.{Finding}
use Rattle.trace_lines.specs.declared.finding.Finding.TheVariants as finding
use Rattle.world_semantics.specs.declared.role.Role.{Role}
use Rattle.world_semantics.specs.declared.role.Role.TheVariants as role
use Rattle.event_findings.specs.Sets.{sets_found}
use Rattle.event_findings.specs.Steps.{statement_of, step_found, still_of}
use Rattle.machine_views.specs.Views.{acting_of}

-- Copies

-- a copy that watched takes over in its next era
abbrev pub takeover_of : Site → CopyView → Finding
takeover_of site after =
    finding.TakesOver after.process after.processor after.era (statement_of site after)

-- a copy that watches has the number of the last checkpoint that it put in, and so has one that was blank
abbrev pub applied : CopyView → CopyView → Option Finding
applied before after =
    if nat_lt before.number after.number
    then Some (finding.AppliesCheckpoint after.process after.processor after.number) else None

abbrev pub copy_found_as : Site → CopyView → CopyView → Role → Role → Option Finding
copy_found_as site before after role.Watching role.Acting = Some (takeover_of site after)
copy_found_as site before after role.Watching role.Watching = applied before after
copy_found_as site before after role.Watching role.Blank = None
copy_found_as site before after role.Watching role.Gone = None
copy_found_as site before after role.Blank role.Watching = applied before after
copy_found_as site before after role.Blank role.Blank = None
copy_found_as site before after role.Blank role.Acting = None
copy_found_as site before after role.Blank role.Gone = None
copy_found_as site before after role.Acting now = None
copy_found_as site before after role.Gone now = None

-- what a copy did that watched or was blank
abbrev pub copy_found : Site → CopyView → CopyView → Option Finding
copy_found site before after = copy_found_as site before after before.role after.role

abbrev pub copies_found : Site → List CopyView → List CopyView → List Finding
copies_found site [] after = []
copies_found site (copy ∷ before) [] = []
copies_found site (copy ∷ before) (now ∷ after) =
    option_to_list (copy_found site copy now) ++ copies_found site before after

-- whether a request of this opener and number waited
abbrev pub had_waiting : List Request → Request → Bool
had_waiting before request = list_any (λ one. one.opener == request.opener && one.number == request.number) before

abbrev pub wait_found : CopyView → List Request → Request → List Finding
wait_found copy before request =
    if had_waiting before request then [] else finding.Waits copy.process copy.processor request.number ∷ []

-- the requests that wait at a copy and didn't before
abbrev pub waits_of : CopyView → CopyView → List Finding
waits_of before after = flat_map (wait_found after before.waiting) after.waiting

abbrev pub waits_found : List CopyView → List CopyView → List Finding
waits_found [] after = []
waits_found (copy ∷ before) [] = []
waits_found (copy ∷ before) (now ∷ after) = waits_of copy now ++ waits_found before after

-- Nodes

abbrev pub has_stopped : List ℕ → ℕ → Bool
has_stopped before processor = list_any (λ one. one == processor) before

abbrev pub stop_found : List ℕ → ℕ → List Finding
stop_found before processor = if has_stopped before processor then [] else finding.Stops processor ∷ []

-- the processors that have stopped and hadn't before
abbrev pub stops_found : List ℕ → List ℕ → List Finding
stops_found before after = flat_map (stop_found before) after

-- the processors that had stopped and run now
abbrev pub reload_found : List ℕ → ℕ → List Finding
reload_found after processor = if has_stopped after processor then [] else finding.Reloads processor ∷ []

abbrev pub reloads_found : List ℕ → List ℕ → List Finding
reloads_found before after = flat_map (reload_found after) before

abbrev pub had_marked : List DownView → DownView → Bool
had_marked before mark = list_any (λ one. one.node == mark.node && one.down == mark.down) before

abbrev pub mark_found : List DownView → DownView → List Finding
mark_found before mark = if had_marked before mark then [] else finding.Marks mark.node mark.down ∷ []

-- the marks that stand and didn't before
abbrev pub marks_found : List DownView → List DownView → List Finding
marks_found before after = flat_map (mark_found before) after

-- Events

abbrev pub entered_found : TerminalView → Finding
entered_found terminal = finding.Enters terminal.entered

-- the step of the process that runs, or the request that a terminal enters
abbrev pub own_found : Site → Event → View → View → Option Finding
own_found site (Run process) before after = step_found site process before.copies after.copies
own_found site (Enter terminal) before after = option_map entered_found (slice_get after.terminals terminal)
own_found site (Deliver bus k) before after = None
own_found site (Lose bus k) before after = None
own_found site (Repeat bus k) before after = None
own_found site (Tick node) before after = None
own_found site (Fail processor) before after = None
own_found site (Reload processor) before after = None
own_found site (Drive one) before after = None

-- where the process stands still that was to run
abbrev pub still_found : Event → View → Option Finding
still_found (Run process) view = still_of (acting_of process view.copies)
still_found (Enter terminal) view = None
still_found (Deliver bus k) view = None
still_found (Lose bus k) view = None
still_found (Repeat bus k) view = None
still_found (Tick node) view = None
still_found (Fail processor) view = None
still_found (Reload processor) view = None
still_found (Drive one) view = None

-- all that an event did between two views
abbrev pub changes_found : Site → Event → View → View → List Finding
changes_found site event before after =
    option_to_list (own_found site event before after) ++ sets_found site event before after
    ++ stops_found before.stopped after.stopped ++ reloads_found before.stopped after.stopped
    ++ marks_found before.down after.down
    ++ copies_found site before.copies after.copies ++ waits_found before.copies after.copies

-- The copies of a site's processes as they stand: one acts and the other watches; the other acts from a takeover on;
-- a copy is gone once its processor has stopped, and watches or is blank once that is loaded again.
use Rattle.std.specs.List.{range_with_len}
use Rattle.std.specs.Prelude.{ℕ, ◌-◌, ◌/◌, ◌==◌, ◌&&◌, ◌||◌, not, Bool, true, false, if◌then◌else◌, List, [], ◌∷◌}
use Rattle.std.specs.Prelude.{flat_map, slice_get, Option, Some, None}
use Rattle.chart_drawing.specs.Layout.{copy_spot}
use Rattle.chart_drawing.specs.declared.layout.Layout.{Layout}
use Rattle.chart_drawing.specs.declared.standing.Standing.{Standing}
use Rattle.svg_text.specs.declared.drawing.Shape.{Shape}
use Rattle.svg_text.specs.declared.drawing.Shape.TheVariants.{Bar}
use Rattle.svg_text.specs.declared.drawing.Spot.{Spot}
use Rattle.svg_text.specs.declared.looks.Look.{Look}
use Rattle.svg_text.specs.declared.looks.Look.TheVariants as look
use Rattle.tal_tree.specs.declared.site.ProcessSpec.{ProcessSpec}
use Rattle.tal_tree.specs.declared.site.Site.{Site}
use Rattle.trace_lines.specs.declared.finding.Finding.{Finding}
use Rattle.trace_lines.specs.declared.finding.Finding.TheVariants as finding

-- At the beginning

abbrev pub copy_at_boot : ℕ → ℕ → Bool → Standing
copy_at_boot process processor acts =
    record { process = process; processor = processor; acts = acts; gone = false }

abbrev pub copies_by : ℕ → Option ProcessSpec → List Standing
copies_by process None = []
copies_by process (Some spec) =
    copy_at_boot process spec.primary true ∷ copy_at_boot process spec.backup false ∷ []

abbrev pub copies_of : Site → ℕ → List Standing
copies_of site process = copies_by process (slice_get site.processes process)

abbrev pub standings_at_boot : Layout → Site → List Standing
standings_at_boot layout site = flat_map (copies_of site) (range_with_len 0 layout.processes)

-- After an event

abbrev pub is_at : ℕ → ℕ → Standing → Bool
is_at process processor standing = (standing.process == process) && (standing.processor == processor)

abbrev pub taken_over : ℕ → ℕ → Standing → Standing
taken_over process processor standing = record standing { acts = standing.acts || is_at process processor standing }

abbrev pub stopped : ℕ → Standing → Standing
stopped processor standing = record standing { gone = standing.gone || (standing.processor == processor) }

abbrev pub loaded : ℕ → Standing → Standing
loaded processor standing =
    if standing.processor == processor then record standing { acts = false; gone = false } else standing

abbrev pub after_one : Finding → Standing → Standing
after_one (finding.TakesOver process processor era statement) standing = taken_over process processor standing
after_one (finding.Stops processor) standing = stopped processor standing
after_one (finding.Reloads processor) standing = loaded processor standing
after_one finding.Skipped standing = standing
after_one (finding.StandsStill point) standing = standing
after_one (finding.WouldStopSecond processor) standing = standing
after_one (finding.WouldLoseDisc process) standing = standing
after_one (finding.Packet packet fate message) standing = standing
after_one (finding.Sends sender receiver last message again) standing = standing
after_one (finding.Makes process statement) standing = standing
after_one (finding.Sets process item place value) standing = standing
after_one (finding.DiscGoesOn point) standing = standing
after_one (finding.SendsCheckpoint number) standing = standing
after_one finding.PassesCheckpoint standing = standing
after_one (finding.SendsEverything number) standing = standing
after_one finding.EndsSending standing = standing
after_one (finding.AppliesCheckpoint process processor number) standing = standing
after_one (finding.Waits process processor number) standing = standing
after_one (finding.Marks node processor) standing = standing
after_one (finding.Misses node processor) standing = standing
after_one (finding.FindsSilent node processor) standing = standing
after_one (finding.Reports node silent) standing = standing
after_one (finding.PullsLine node processor) standing = standing
after_one (finding.IgnoresCheckpoint process processor number why) standing = standing
after_one (finding.HearsTaken process processor number) standing = standing
after_one (finding.Keeps act) standing = standing
after_one (finding.HoldsBack act) standing = standing
after_one (finding.Enters number) standing = standing
after_one (finding.Drive state) standing = standing

-- a copy after all that an event did
abbrev pub after_all : List Finding → Standing → Standing
after_all [] standing = standing
after_all (finding ∷ findings) standing = after_all findings (after_one finding standing)

-- Which copy acts

abbrev pub acts_for : ℕ → Standing → Bool
acts_for process standing = (standing.process == process) && standing.acts && not standing.gone

-- the processor of the copy that acts for a process, if one does
abbrev pub acting_in : ℕ → List Standing → Option ℕ
acting_in process [] = None
acting_in process (standing ∷ standings) =
    if acts_for process standing then Some standing.processor else acting_in process standings

-- What is drawn

-- a bar with its middle in a place
abbrev pub bar_round : Look → Spot → ℕ → ℕ → Shape
bar_round look at width height =
    Bar look (record { x = at.x - width / 2; y = at.y - height / 2 }) width height

-- a copy beside an event: a wide bar if it acts, a thin one if it watches or is blank, and a point if it is gone
abbrev pub copy_bar : Layout → ℕ → Standing → Shape
copy_bar layout number standing =
    let at = copy_spot layout standing.process standing.processor number in
    if standing.gone then bar_round look.Gone at 2 2
    else if standing.acts then bar_round look.Acting at 8 14 else bar_round look.Watching at 4 14

-- Stops with which a run isn't one of unfailing processes. After Bartlett's paper: a process pair does what one process
-- does that never fails. Which stops are tried, and in which order, is our own rule.
use Rattle.std.specs.Prelude.{◌≡◌, ◌<◌, ℕ, Bool, true, false, List, Option, Some, None, min, reverse}
use Rattle.tal_tree.specs.declared.act.Shown.{Shown}
use Rattle.tal_tree.specs.declared.site.Site.{Site}
use Rattle.schedule.specs.declared.line.Line.{Line}
use Rattle.player.specs.declared.stop.ProcessorStop.{ProcessorStop}
use Rattle.schedule_runs.specs.Ends.{IsRunOfPairs}
use Rattle.schedule_runs.specs.declared.ran.Ran.{Ran}
use Rattle.schedule_runs.specs.schedule_loop.specs.declared.ran.Ending.{Ending}
use Rattle.schedule_runs.specs.schedule_loop.specs.declared.ran.Ending.TheVariants.{Idle, Cut, Second, Lost}
use Rattle.unfailing_judge.specs.Sound.{IsJudged}
use Rattle.unfailing_judge.specs.declared.wrong.Wrong.{Wrong}
use Rattle.world_semantics.specs.Shares.{closed}
use Rattle.break_runs.specs.declared.found.Break.{Break}
use Rattle.break_runs.specs.declared.found.Search.{Search}
use Rattle.break_runs.specs.declared.found.StopBreak.{StopBreak}

abbrev pub is_idle_end : Ending → Bool
is_idle_end Idle = true
is_idle_end Cut = false
is_idle_end (Second processor) = false
is_idle_end (Lost process) = false

-- what a run shows, in order
abbrev pub shown_in : Ran → List Shown
shown_in ran = reverse ran.machine.state.world.shown

-- what a run does and shows, judged by unfailing processes: the acts that are kept, and those that copies still hold
abbrev pub IsRunJudged : Site → Ran → Option Wrong → Type 0
IsRunJudged site ran = IsJudged site (closed ran.machine.state.world) (shown_in ran) (is_idle_end ran.ending)

-- a run of the schedule with this stop is judged so: it breaks if something goes wrong
pub record IsTriedAs (site : Site) (lines : List Line) (stop : Option ProcessorStop) (found : Option Wrong) : Type 0
  where
    pub ran : Ran
    pub is_run : IsRunOfPairs site lines stop ran
    pub judged : IsRunJudged site ran found

abbrev pub stop_of : ℕ → ℕ → ProcessorStop
stop_of processor after = record { processor = processor; after = after }

-- no run breaks in which this processor stops after fewer events
abbrev pub AreSoundUpTo : Site → List Line → ℕ → ℕ → Type 0
AreSoundUpTo site lines processor after =
    (fewer : ℕ) → fewer < after → IsTriedAs site lines (Some (stop_of processor fewer)) None

-- no run breaks in which a processor below this stops after fewer events than there are places
abbrev pub AreSoundBelow : Site → List Line → ℕ → ℕ → Type 0
AreSoundBelow site lines places bound =
    (processor : ℕ) → processor < bound → AreSoundUpTo site lines processor places

-- of the stops of one processor the first with which a run breaks, if there is one
abbrev pub IsFirstOf : Site → List Line → ℕ → ℕ → Option StopBreak → Type 0
IsFirstOf site lines places processor None = AreSoundUpTo site lines processor places
IsFirstOf site lines places processor (Some found) =
    (found.stop.processor ≡ processor) × (found.stop.after < places)
    × AreSoundUpTo site lines processor found.stop.after
    × IsTriedAs site lines (Some found.stop) (Some found.wrong)

-- of all stops the first with which a run breaks
pub record IsFirstStop (site : Site) (lines : List Line) (places : ℕ) (found : StopBreak) : Type 0 where
  pub there : found.stop.processor < site.processors
  pub place : found.stop.after < places
  pub below : AreSoundBelow site lines places found.stop.processor
  pub earlier : AreSoundUpTo site lines found.stop.processor found.stop.after
  pub tried : IsTriedAs site lines (Some found.stop) (Some found.wrong)

abbrev pub IsFirstAmong : Site → List Line → ℕ → Option StopBreak → Type 0
IsFirstAmong site lines places None = AreSoundBelow site lines places site.processors
IsFirstAmong site lines places (Some found) = IsFirstStop site lines places found

-- a run breaks with no stop; or it doesn't, and this is the first stop with which one does
abbrev pub IsBreak : Site → List Line → ℕ → Option ProcessorStop → Wrong → Type 0
IsBreak site lines places None wrong = IsTriedAs site lines None (Some wrong)
IsBreak site lines places (Some stop) wrong =
    IsTriedAs site lines None None
    × IsFirstStop site lines places (record { stop = stop; wrong = wrong })

-- the first run that breaks, or none of those tried does
abbrev pub IsFound : Site → List Line → ℕ → Option Break → Type 0
IsFound site lines places None =
    IsTriedAs site lines None None × AreSoundBelow site lines places site.processors
IsFound site lines places (Some found) = IsBreak site lines places found.stop found.wrong

-- how many of so many events have a stop before them that is tried
abbrev pub places_of : ℕ → ℕ
places_of asked = min asked 1000

-- the run with no stop asks for so many events, and this was found of the stops before them
pub record IsSearch (site : Site) (lines : List Line) (search : Search) : Type 0 where
  pub ran : Ran
  pub is_run : IsRunOfPairs site lines None ran
  pub asked : search.asked ≡ ran.asked
  pub places : search.places ≡ places_of ran.asked
  pub found : IsFound site lines search.places search.found

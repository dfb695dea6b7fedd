-- What came of a search for a run that goes wrong, as text. Our own wording.
use Rattle.std.specs.Prelude.{ℕ, List, [], ◌∷◌, ◌++◌, codes, Option, Some, None}
use Rattle.std.specs.Fmt.{decimal}
use Rattle.player.specs.declared.stop.ProcessorStop.{ProcessorStop}
use Rattle.tal_tree.specs.declared.act.Act.{Act}
use Rattle.tal_tree.specs.declared.act.Act.TheVariants.{Step, Take, Enter, Print}
use Rattle.tal_tree.specs.declared.site.Site.{Site}
use Rattle.tal_tree.specs.declared.act.Shown.{Shown}
use Rattle.trace_print.specs.ShownLine.{process_name, shown_line, terminal_name}
use Rattle.break_runs.specs.unfailing_judge.specs.declared.wrong.Apart.{Apart}
use Rattle.break_runs.specs.unfailing_judge.specs.declared.wrong.Stuck.{Stuck}
use Rattle.break_runs.specs.unfailing_judge.specs.declared.wrong.Wrong.{Wrong}
use Rattle.break_runs.specs.unfailing_judge.specs.declared.wrong.Wrong.TheVariants as wrong
use Rattle.break_runs.specs.break_progress.specs.Progress.{runs_of}
use Rattle.break_runs.specs.declared.found.Break.{Break}
use Rattle.break_runs.specs.declared.found.Search.{Search}

-- The run that breaks

abbrev pub stopped_text : ProcessorStop → List ℕ
stopped_text stop =
    codes "a run breaks in which processor " ++ decimal stop.processor ++ codes " stops after "
    ++ decimal stop.after ++ (codes " events:" ++ 10 ∷ [])

abbrev pub stop_text : Option ProcessorStop → List ℕ
stop_text None = codes "the run breaks with no stop but those of its schedule:" ++ 10 ∷ []
stop_text (Some stop) = stopped_text stop

-- the line of what is shown, if anything is
abbrev pub line_text : Site → Option Shown → List ℕ
line_text site None = codes "nothing more" ++ 10 ∷ []
line_text site (Some shown) = shown_line site shown

abbrev pub agreed_text : ℕ → List ℕ
agreed_text before = codes "  lines that unfailing processes show too: " ++ decimal before ++ 10 ∷ []

abbrev pub unlike_text : Site → Apart → List ℕ
unlike_text site apart =
    codes "  then this run shows:      " ++ line_text site apart.shown ++ codes "  unfailing processes show: "
    ++ line_text site apart.due

-- beside unfailing processes that do the acts of this run
abbrev pub apart_text : Site → Apart → List ℕ
apart_text site apart = agreed_text apart.before ++ unlike_text site apart

abbrev pub apart_if : Site → Option Apart → List ℕ
apart_if site None = []
apart_if site (Some apart) = apart_text site apart

abbrev pub act_name : Act → List ℕ
act_name (Step process) = codes "a step of "
act_name (Take process opener) = codes "the take of a request by "
act_name (Enter terminal) = codes "the entry of a request by "
act_name (Print terminal) = codes "the print of a reply by "

abbrev pub actor_name : Site → Act → List ℕ
actor_name site (Step process) = process_name site process
actor_name site (Take process opener) = process_name site process
actor_name site (Enter terminal) = terminal_name site terminal
actor_name site (Print terminal) = terminal_name site terminal

abbrev pub acts_text : ℕ → List ℕ
acts_text before = codes "  acts of this run that unfailing processes can do: " ++ decimal before ++ 10 ∷ []

abbrev pub kept_text : Site → Act → List ℕ
kept_text site act =
    codes "  then comes " ++ act_name act ++ actor_name site act
    ++ (codes ", which they can't do there" ++ 10 ∷ [])

abbrev pub stuck_text : Site → Stuck → List ℕ
stuck_text site stuck = apart_if site stuck.apart ++ acts_text stuck.made ++ kept_text site stuck.act

abbrev pub left_text : List ℕ
left_text =
    codes "  it shows what unfailing processes show, and ends idle" ++ 10 ∷ []
    ++ (codes "  unfailing processes have something left to do there" ++ 10 ∷ [])

abbrev pub wrong_text : Site → Wrong → List ℕ
wrong_text site (wrong.Stuck stuck) = stuck_text site stuck
wrong_text site (wrong.Differs apart) = apart_text site apart
wrong_text site wrong.Left = left_text

abbrev pub break_text : Site → Break → List ℕ
break_text site found = stop_text found.stop ++ wrong_text site found.wrong

-- None breaks

abbrev pub asked_text : ℕ → ℕ → List ℕ
asked_text asked places =
    codes "  with each processor stopped before each of the first " ++ decimal places
    ++ codes " events; the run with no stop asks for " ++ decimal asked ++ 10 ∷ []

abbrev pub tried_text : ℕ → List ℕ
tried_text runs = codes "no run breaks of those that were tried: " ++ decimal runs ++ 10 ∷ []

abbrev pub unbroken_text : Site → ℕ → ℕ → List ℕ
unbroken_text site asked places =
    tried_text (runs_of site.processors places) ++ asked_text asked places
    ++ (codes "  the checker looks at paths and not at values: a refused program may never go wrong" ++ 10 ∷ [])

abbrev pub found_text : Site → ℕ → ℕ → Option Break → List ℕ
found_text site asked places None = unbroken_text site asked places
found_text site asked places (Some found) = break_text site found

abbrev pub search_text : Site → Search → List ℕ
search_text site search = found_text site search.asked search.places search.found

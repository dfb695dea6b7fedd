-- What is told of a search while it goes on. Our own rule.
use Rattle.std.specs.Prelude.{◌≡◌, ℕ, ◌+◌, ◌*◌, List, Option, Some, None, Result, IfOk}
use Rattle.break_progress.specs.Progress.{GoesOut, IsProgress, progress_text, runs_of}
use Rattle.gd_words.specs.declared.memory.NoMemory.{NoMemory}
use Rattle.player.specs.declared.stop.ProcessorStop.{ProcessorStop}
use Rattle.schedule.specs.declared.line.Line.{Line}
use Rattle.tal_tree.specs.declared.site.Site.{Site}
use Rattle.break_runs.specs.Breaks.{IsSearch}
use Rattle.break_runs.specs.declared.found.Break.{Break}
use Rattle.break_runs.specs.declared.found.Search.{Search}
use Rattle.break_runs.specs.declared.found.StopBreak.{StopBreak}

-- how many runs are tried before the one with this stop: the one with no stop, one for each place of each processor
-- below, and those of this processor with stops before fewer events
abbrev pub tried_before : ℕ → ProcessorStop → ℕ
tried_before places stop = 1 + stop.processor * places + stop.after

-- how many stops of one processor break no run, as far as they are tried
abbrev pub sound_of : ℕ → Option StopBreak → ℕ
sound_of places None = places
sound_of places (Some found) = found.stop.after

-- how many runs don't break, as far as they are tried
abbrev pub sound_among : ℕ → ℕ → Option StopBreak → ℕ
sound_among processors places None = runs_of processors places
sound_among processors places (Some found) = tried_before places found.stop

abbrev pub sound_before : ℕ → Option ProcessorStop → ℕ
sound_before places None = 0
sound_before places (Some stop) = tried_before places stop

abbrev pub sound_runs : ℕ → ℕ → Option Break → ℕ
sound_runs processors places None = runs_of processors places
sound_runs processors places (Some found) = sound_before places found.stop

-- what is told on the way of a search that comes to its end
abbrev pub search_progress : Site → Search → List ℕ
search_progress site search =
    progress_text (runs_of site.processors search.places) (sound_runs site.processors search.places search.found)

-- a search among the runs of a schedule, and what is told on the way: if memory runs out, how many runs were tried then
pub record IsToldSearch {K : Type 0} (held : K → Option (List ℕ)) (faults : K → ℕ) (sure : K → ℕ → Type 0)
    (site : Site) (lines : List Line) (sink sink_now : K) (result : Result Search NoMemory) : Type 0 where
  pub text : List ℕ
  pub told : GoesOut held faults sure sink sink_now text
  pub progress : IsProgress text
  pub searched : IfOk result (λ search. IsSearch site lines search × (text ≡ search_progress site search))

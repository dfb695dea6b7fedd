-- What is told once a deck was run.
use Rattle.std.specs.Prelude.{◌≡◌, ℕ, List, [], ◌∷◌, ◌++◌, codes, slice_get, Option}
use Rattle.std.specs.Option.{option_map, unwrap_or}
use Rattle.std.specs.Fmt.{decimal}
use Rattle.accepted_decks.specs.deck_reader.specs.declared.deck.Deck.{Deck}
use Rattle.left_text.specs.left_findings.specs.Left.{IsLeft}
use Rattle.left_text.specs.left_findings.specs.declared.finding.Left.{Left}
use Rattle.left_text.specs.LeftText.{left_text}
use Rattle.left_text.specs.machine_views.specs.Views.{view_of}
use Rattle.noted_runs.specs.Runs.{IsRunWithSteps}
use Rattle.noted_runs.specs.declared.running.NotedRan.{NotedRan}
use Rattle.player.specs.declared.stop.ProcessorStop.{ProcessorStop}
use Rattle.schedule_loop.specs.declared.ran.Ending.{Ending}
use Rattle.schedule_loop.specs.declared.ran.Ending.TheVariants as ending
use Rattle.tal_tree.specs.declared.site.Site.{Site}

-- the processor that would have been the second to stop
abbrev pub second_text : ℕ → List ℕ
second_text processor = codes "the run ended before a second stop, of processor " ++ decimal processor ++ 10 ∷ []

-- the name of a process; nothing where it isn't there
abbrev pub name_of : Site → ℕ → List ℕ
name_of site process = unwrap_or (option_map (λ spec. spec.name) (slice_get site.processes process)) []

-- the disc that would have been lost
abbrev pub lost_text : Site → ℕ → List ℕ
lost_text site process = codes "the run ended before the last drive of " ++ name_of site process
    ++ (codes " would have failed" ++ 10 ∷ [])

abbrev pub ending_text : Site → Ending → List ℕ
ending_text site ending.Idle = codes "the run ended idle" ++ 10 ∷ []
ending_text site ending.Cut = codes "the run was cut" ++ 10 ∷ []
ending_text site (ending.Second processor) = second_text processor
ending_text site (ending.Lost process) = lost_text site process

-- how a run of a deck of these bytes ended, and what is left then
abbrev pub run_text : List ℕ → Site → NotedRan → Left → List ℕ
run_text bytes site noted left = ending_text site noted.ran.ending ++ left_text bytes site left noted.steps

-- the text tells what is left in the world in which a run ended
abbrev pub IsTextOfRun : List ℕ → Site → NotedRan → List ℕ → Type 0
IsTextOfRun bytes site noted text =
    (left : Left) × IsLeft site (view_of noted.ran.machine.state.world) left × (text ≡ run_text bytes site noted left)

-- the text is told of a run of the schedule of a deck of these bytes, with this stop
abbrev pub IsLeftText : List ℕ → Deck → Option ProcessorStop → List ℕ → Type 0
IsLeftText bytes deck stop text =
    (noted : NotedRan) × IsRunWithSteps deck.site deck.lines stop noted × IsTextOfRun bytes deck.site noted text

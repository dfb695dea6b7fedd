-- What the words of a command line of `explain` ask for. Our own rule.
use Rattle.std.specs.Prelude.{◌≡◌, ℕ, Bool, false, ◌||◌, List, [], ◌∷◌, Option, Some, None, option_and_then}
use Rattle.std.specs.Prelude.{option_map, codes, if◌then◌else◌}
use Rattle.std.specs.Option.{option_map_or}
use Rattle.std.specs.Str.{bytes_eq}
use Rattle.clap.specs.Words.{IsAmong, Kinds, Row, Text, fault_of, first_of, matches_of}
use Rattle.clap.specs.declared.error.kind.ErrorKind.{ErrorKind}
use Rattle.clap.specs.declared.error.kind.ErrorKind.TheVariants as kind
use Rattle.command_words.specs.Asked.{stop_of}
use Rattle.deck_lines.specs.Numbers.{written_number}
use Rattle.player.specs.declared.stop.ProcessorStop.{ProcessorStop}
use Rattle.explain_words.specs.Line.{the_line}
use Rattle.explain_words.specs.declared.asked.Question.{Question}
use Rattle.explain_words.specs.declared.asked.Question.TheVariants.{Why, Left, Breaks, Trace, Chart, Help, Version}
use Rattle.explain_words.specs.declared.asked.ToldRun.{ToldRun}

-- `why` takes no stop
abbrev pub why_as : Option Text → Option Question
why_as None = Some Why
why_as (Some fail) = None

-- the stop that the words give, if they give one: `P:K`
abbrev pub stop_asked : Option Text → Option (Option ProcessorStop)
stop_asked None = Some None
stop_asked (Some fail) = option_map (λ stop. Some stop) (stop_of fail)

-- `left` takes one
abbrev pub left_as : Option Text → Option Question
left_as fail = option_map (λ stop. Left stop) (stop_asked fail)

-- `break` takes none
abbrev pub breaks_as : Option Text → Option Question
breaks_as None = Some Breaks
breaks_as (Some fail) = None

-- these three take no event
abbrev pub told_as : Text → Option Text → Option Question
told_as mode fail =
    if bytes_eq mode (codes "why") then why_as fail else if bytes_eq mode (codes "left") then left_as fail
    else if bytes_eq mode (codes "break") then breaks_as fail else None

abbrev pub without_events : Text → Option Text → Option Text → Option Text → Option Question
without_events mode fail None None = told_as mode fail
without_events mode fail None (Some to) = None
without_events mode fail (Some from) to = None

-- nor `--json` or `--alive`
abbrev pub without_flags : Text → Option Text → Option Text → Option Text → Bool → Option Question
without_flags mode fail from to flagged = if flagged then None else without_events mode fail from to

-- the number of an event, or this one where the words give none
abbrev pub event_number : Option Text → ℕ → Option ℕ
event_number None missing = Some missing
event_number (Some text) missing = written_number text

-- the run that is told: with its stop, and from its first event to its last one, which are else the first and the last
-- of all
abbrev pub told_run : Option Text → Option Text → Option Text → Option ToldRun
told_run fail from to = option_and_then (λ first. option_and_then (λ last.
    option_map (λ stop. record { stop = stop; from = first; to = last }) (stop_asked fail))
    (event_number to 4294967295)) (event_number from 1)

-- `trace` takes a stop, and the first and the last event; and `--json`
abbrev pub trace_as : Option Text → Option Text → Option Text → Bool → Bool → Option Question
trace_as fail from to json alive =
    if alive then None else option_map (λ run. Trace run.stop run.from run.to json) (told_run fail from to)

-- `chart` takes what `trace` takes, but `--alive` in place of `--json`
abbrev pub chart_as : Option Text → Option Text → Option Text → Bool → Bool → Option Question
chart_as fail from to json alive =
    if json then None else option_map (λ run. Chart run.stop run.from run.to alive) (told_run fail from to)

-- what a mode asks for with these values of `--fail`, `--from` and `--to`, and with `--json` and `--alive` or without
abbrev pub question_as : Text → Option Text → Option Text → Option Text → Bool → Bool → Option Question
question_as mode fail from to json alive =
    if bytes_eq mode (codes "trace") then trace_as fail from to json alive
    else if bytes_eq mode (codes "chart") then chart_as fail from to json alive
    else without_flags mode fail from to (json || alive)

-- whether a flag is there
abbrev pub has_flag : Text → List Row → Bool
has_flag id rows = option_map_or (λ text. bytes_eq text (codes "true")) (first_of id rows) false

-- what the parts that clap tells apart ask for
abbrev pub question_in : List Row → Option Question
question_in rows = option_and_then
    (λ mode. question_as mode (first_of (codes "fail") rows) (first_of (codes "from") rows) (first_of (codes "to") rows)
    (has_flag (codes "json") rows) (has_flag (codes "alive") rows))
    (first_of (codes "mode") rows)

-- what words ask for that clap refuses for this
abbrev pub kind_question : ErrorKind → Option Question
kind_question kind.DisplayHelp = Some Help
kind_question kind.DisplayVersion = Some Version
kind_question _ = None

-- by what clap refuses the words for, and else by their parts
abbrev pub AsksBy : Kinds → List Row → Option Question → Type 0
AsksBy [] rows question = question ≡ question_in rows
AsksBy (first ∷ kinds) rows question =
    (one : ErrorKind) × IsAmong one (first ∷ kinds) × (question ≡ kind_question one)

-- what the words ask for, the program's name first
abbrev pub IsAsked : List Text → Option Question → Type 0
IsAsked words question = AsksBy (fault_of the_line words) (matches_of the_line words) question

abbrev pub file_by : Kinds → List Row → Option Text
file_by [] rows = first_of (codes "file") rows
file_by (first ∷ kinds) rows = None

-- the file that they name
abbrev pub IsFileAsked : List Text → Option Text → Type 0
IsFileAsked words file = file ≡ file_by (fault_of the_line words) (matches_of the_line words)

-- what the words after the program's name ask for
abbrev pub IsAskedAfter : List Text → Option Question → Type 0
IsAskedAfter words question = IsAsked (codes "explain" ∷ words) question

abbrev pub IsFileAfter : List Text → Option Text → Type 0
IsFileAfter words file = IsFileAsked (codes "explain" ∷ words) file

-- `left` with a stop of this processor after so many events
abbrev pub left_with_stop : ℕ → ℕ → Question
left_with_stop processor after = Left (Some (record { processor = processor; after = after }))

-- `trace` with a stop of this processor after so many events, within these numbers, as text
abbrev pub trace_with_stop : ℕ → ℕ → ℕ → ℕ → Question
trace_with_stop processor after from to = Trace (Some (record { processor = processor; after = after })) from to false

-- `chart` with a stop of this processor after so many events, within these numbers, without alive packets
abbrev pub chart_with_stop : ℕ → ℕ → ℕ → ℕ → Question
chart_with_stop processor after from to = Chart (Some (record { processor = processor; after = after })) from to false

-- What the lines of a deck say together, line by line, up to the first that can't stand where it does.
use Rattle.std.specs.Prelude.{ℕ, ◌+◌, nat_le, List, [], ◌∷◌, ◌++◌, length, codes, Option, Some, None, Result, Ok, Err}
use Rattle.std.specs.Prelude.{if◌then◌else◌, ℤ}
use Rattle.std.specs.Str.{bytes_eq}
use Rattle.name_table.specs.Entries.{Named}
use Rattle.schedule.specs.declared.line.Line.{Line}
use Rattle.deck_reader.specs.EventLineOf.{event_line}
use Rattle.deck_reader.specs.LineFaults.{processors_of, heading_of, disc_of, process_with, terminal_of, asks}
use Rattle.deck_lines.specs.SayingOf.{saying_of}
use Rattle.deck_lines.specs.declared.event_saying.EventSaying.{EventSaying}
use Rattle.deck_reader.specs.declared.line_fault.LineFault.{LineFault}
use Rattle.deck_reader.specs.declared.line_fault.LineFault.TheVariants as fault
use Rattle.deck_reader.specs.declared.outline.Body.TheVariants as body
use Rattle.deck_reader.specs.declared.outline.EventLines.{EventLines}
use Rattle.deck_reader.specs.declared.outline.Heading.{Heading}
use Rattle.deck_reader.specs.declared.outline.Outline.{Outline}
use Rattle.deck_reader.specs.declared.outline.ProcessLines.{ProcessLines}
use Rattle.deck_reader.specs.declared.outline.ProgramLines.{ProgramLines}
use Rattle.deck_reader.specs.declared.outline.Sums.{Sums}
use Rattle.deck_reader.specs.declared.outline.TerminalLines.{TerminalLines}
use Rattle.deck_lines.specs.declared.saying.Saying.{Saying}
use Rattle.deck_lines.specs.declared.saying.Saying.TheVariants as said
use Rattle.deck_reader.specs.declared.step.Breach.{Breach}
use Rattle.deck_reader.specs.declared.step.Stage.{Stage}
use Rattle.deck_reader.specs.declared.step.Stage.TheVariants as at
use Rattle.deck_reader.specs.declared.step.LineOutcome.{LineOutcome}
use Rattle.deck_reader.specs.declared.step.LineOutcome.TheVariants as step
use Rattle.deck_reader.specs.declared.told.Told.{Told}
use Rattle.deck_reader.specs.declared.told.Told.TheVariants as told
use Rattle.gd_words.specs.declared.limits.TheConstants.{MOST_REQUESTS}
use Rattle.tal_tree.specs.declared.limit.DeckLimit.TheVariants as deck_limit

-- the line of this number can't stand here
abbrev pub breach_at : Outline → ℕ → LineFault → Breach
breach_at outline number why = record { processes = outline.processes; own = None; line = number; why = why }

-- nor there, before any process is told
abbrev pub broken_at_start : ℕ → LineFault → Breach
broken_at_start number why = record { processes = []; own = None; line = number; why = why }

-- the line of the processors comes first
abbrev pub site_told : ℕ → Result Outline LineFault → LineOutcome
site_told number (Err why) = step.Broken (broken_at_start number why)
site_told number (Ok outline) = step.Next (at.Blocks outline)

abbrev pub opening : ℕ → Saying → LineOutcome
opening number said.Nothing = step.Next at.Opening
opening number (said.Processors count) = site_told number (processors_of count)
opening number _ = step.Broken (broken_at_start number fault.Form)

abbrev pub with_process : Outline → Named ProcessLines → Outline
with_process outline process = record outline { processes = outline.processes ++ process ∷ [] }

-- a disc
abbrev pub disc_told : Outline → ℕ → Result (Named ProcessLines) LineFault → LineOutcome
disc_told outline number (Err why) = step.Broken (breach_at outline number why)
disc_told outline number (Ok process) = step.Next (at.Blocks (with_process outline process))

-- a terminal; its requests follow
abbrev pub terminal_told : Outline → ℕ → List ℕ → Result TerminalLines LineFault → LineOutcome
terminal_told outline number name (Err why) = step.Broken (breach_at outline number why)
terminal_told outline number name (Ok terminal) = step.Next (at.Requests outline name terminal)

-- where a process, a terminal or the schedule may begin. A fault of a pair's line waits for the end of its program,
-- since a fault of the program goes before it
abbrev pub in_blocks : Outline → ℕ → Saying → LineOutcome
in_blocks outline number said.Nothing = step.Next (at.Blocks outline)
in_blocks outline number (said.Disc placing sectors mirrored) =
    disc_told outline number (disc_of outline placing sectors mirrored)
in_blocks outline number (said.Pair placing) =
    step.Next (at.Program outline (heading_of outline placing) (record { line = number; text = [] }))
in_blocks outline number (said.Terminal name target) =
    terminal_told outline number name (terminal_of outline number name target)
in_blocks outline number said.Schedule = step.Next (at.Schedule outline)
in_blocks outline number _ = step.Broken (breach_at outline number fault.Form)

-- the end of a program
abbrev pub program_ended : Outline → Result Heading LineFault → ProgramLines → LineOutcome
program_ended outline (Err why) program =
    step.Broken (record { processes = outline.processes; own = Some program; line = program.line; why = why })
program_ended outline (Ok heading) program =
    step.Next (at.Blocks (with_process outline (process_with heading (body.Pair program))))

-- a program ends before the first line that is a point alone
abbrev pub in_program : Outline → Result Heading LineFault → ProgramLines → List ℕ → LineOutcome
in_program outline heading program line =
    if bytes_eq line (codes ".") then program_ended outline heading program
    else step.Next (at.Program outline heading (record program { text = program.text ++ line ++ 10 ∷ [] }))

-- one more request: a terminal has at most 1,000
abbrev pub request_told : Outline → List ℕ → TerminalLines → ℕ → List ℤ → LineOutcome
request_told outline name terminal number words =
    if nat_le MOST_REQUESTS (length terminal.requests) then step.Broken
    (breach_at outline number (fault.Limit deck_limit.Requests))
    else step.Next (at.Requests outline name (record terminal { requests = terminal.requests ++ words ∷ [] }))

-- a request of more than 16 words
abbrev pub long_request_told : Outline → TerminalLines → ℕ → LineOutcome
long_request_told outline terminal number =
    if nat_le MOST_REQUESTS (length terminal.requests) then step.Broken
    (breach_at outline number (fault.Limit deck_limit.Requests))
    else step.Broken (breach_at outline number (fault.Limit deck_limit.RequestWords))

-- the terminal stands in the outline once its requests are told
abbrev pub with_terminal : Outline → List ℕ → TerminalLines → Outline
with_terminal outline name terminal = record outline { terminals = outline.terminals ++ (name, terminal) ∷ [] }

-- one more request of the terminal, or what begins after it
abbrev pub in_requests : Outline → List ℕ → TerminalLines → ℕ → Saying → LineOutcome
in_requests outline name terminal number said.Nothing = step.Next (at.Requests outline name terminal)
in_requests outline name terminal number (said.Send words) = request_told outline name terminal number words
in_requests outline name terminal number said.LongSend = long_request_told outline terminal number
in_requests outline name terminal number saying = in_blocks (with_terminal outline name terminal) number saying

-- of the lines that name what isn't there the first one counts
abbrev pub first_noted : Option ℕ → ℕ → ℕ
first_noted None number = number
first_noted (Some first) number = first

-- one more event line, with what all ask for together; none where what it names isn't there
abbrev pub with_event : EventLines → ℕ → Sums → Option Line → EventLines
with_event events number sums (Some line) =
    record { lines = events.lines ++ line ∷ []; sums = sums; unknown = events.unknown }
with_event events number sums None =
    record { lines = events.lines; sums = sums; unknown = Some (first_noted events.unknown number) }

abbrev pub asked : Outline → ℕ → EventSaying → Result Sums LineFault → LineOutcome
asked outline number saying (Err why) = step.Broken (breach_at outline number why)
asked outline number saying (Ok sums) =
    step.Next (at.Schedule (record outline {
      events =
          with_event outline.events number sums (event_line outline saying);
    }))

-- one more event line, or END
abbrev pub in_schedule : Outline → ℕ → Saying → LineOutcome
in_schedule outline number said.Nothing = step.Next (at.Schedule outline)
in_schedule outline number said.End = step.Next (at.Ended outline)
in_schedule outline number (said.Event saying) =
    asked outline number saying (asks outline.processors outline.events.sums saying)
in_schedule outline number _ = step.Broken (breach_at outline number fault.Form)

-- after END only lines that say nothing
abbrev pub ended : Outline → ℕ → Saying → LineOutcome
ended outline number said.Nothing = step.Next (at.Ended outline)
ended outline number _ = step.Broken (breach_at outline number fault.Form)

-- one more line, and its number
abbrev pub next_stage : Stage → ℕ → List ℕ → LineOutcome
next_stage at.Opening number line = opening number (saying_of line)
next_stage (at.Blocks outline) number line = in_blocks outline number (saying_of line)
next_stage (at.Program outline heading program) number line = in_program outline heading program line
next_stage (at.Requests outline name terminal) number line = in_requests outline name terminal number (saying_of line)
next_stage (at.Schedule outline) number line = in_schedule outline number (saying_of line)
next_stage (at.Ended outline) number line = ended outline number (saying_of line)

-- the last program has no end: the fault of its pair's line comes first
abbrev pub unended : Outline → Result Heading LineFault → ℕ → ℕ → Told
unended outline (Err why) line count = told.Broken (breach_at outline line why)
unended outline (Ok heading) line count = told.Broken (breach_at outline count fault.NoEnd)

-- no more lines, where there are so many: END has to have come, and the last program to have ended
abbrev pub at_end : Stage → ℕ → Told
at_end at.Opening count = told.Broken (broken_at_start count fault.NoEnd)
at_end (at.Blocks outline) count = told.Broken (breach_at outline count fault.NoEnd)
at_end (at.Program outline heading program) count = unended outline heading program.line count
at_end (at.Requests outline name terminal) count = told.Broken (breach_at outline count fault.NoEnd)
at_end (at.Schedule outline) count = told.Broken (breach_at outline count fault.NoEnd)
at_end (at.Ended outline) count = told.Whole outline

-- what follows one more line: it goes on from the next stage, or ends with the line that can't stand there
abbrev pub led_on : (Stage → Told) → LineOutcome → Told
led_on from (step.Next stage) = from stage
led_on from (step.Broken breach) = told.Broken breach

-- all lines, one after another, from a stage to which so many lines led
abbrev pub told_after : Stage → ℕ → List (List ℕ) → Told
told_after stage count [] = at_end stage count
told_after stage count (line ∷ lines) =
    led_on (λ next. told_after next (count + 1) lines) (next_stage stage (count + 1) line)

-- what all lines say
abbrev pub outline_of : List (List ℕ) → Told
outline_of lines = told_after at.Opening 0 lines

-- The texts of a deck's programs are together no longer than the deck.
use Rattle.std.proofs.Common.{◌≡◌, ℕ, ◌+◌, ◌≤◌, suc, Bool, true, false, cond, List, [], ◌∷◌, ◌++◌, length, None, Result}
use Rattle.std.proofs.Common.{Ok, Err, sym, ap, ◌∙◌, subst, arith, length-append, nat_eq, nat_le, nat_lt}
use Rattle.std.specs.Prelude.{codes}
use Rattle.std.specs.Str.{bytes_eq}
use Rattle.name_table.specs.Entries.{Named}
use Rattle.tal_tree.specs.declared.site.ProcessSpec.{ProcessSpec}
use Rattle.deck_reader.specs.Decks.{IsProcessOf}
use Rattle.deck_reader.specs.LineFaults.{asks, disc_of, heading_of, outline_with, process_with, terminal_of}
use Rattle.deck_reader.specs.LineFaults.{with_sectors}
use Rattle.deck_lines.specs.Lines.{lines_of, before_first}
use Rattle.deck_reader.specs.Outlined.{asked, at_end, disc_told, ended, in_blocks, in_program, in_requests, in_schedule}
use Rattle.deck_reader.specs.Outlined.{led_on, next_stage, opening, program_ended, site_told, terminal_told, told_after}
use Rattle.deck_reader.specs.Outlined.{outline_of, with_terminal}
use Rattle.deck_lines.specs.SayingOf.{saying_of}
use Rattle.deck_reader.specs.Sizes.{body_size, breach_size, text_size}
use Rattle.deck_lines.specs.declared.event_saying.EventSaying.{EventSaying}
use Rattle.deck_reader.specs.declared.line_fault.LineFault.{LineFault}
use Rattle.deck_reader.specs.declared.line_fault.LineFault.TheVariants as fault
use Rattle.deck_reader.specs.declared.outline.Body.TheVariants as body
use Rattle.deck_reader.specs.declared.outline.Heading.{Heading}
use Rattle.deck_reader.specs.declared.outline.Outline.{Outline}
use Rattle.deck_reader.specs.declared.outline.ProcessLines.{ProcessLines}
use Rattle.deck_reader.specs.declared.outline.ProgramLines.{ProgramLines}
use Rattle.deck_reader.specs.declared.outline.Sums.{Sums}
use Rattle.deck_reader.specs.declared.outline.TerminalLines.{TerminalLines}
use Rattle.deck_lines.specs.declared.saying.Placing.{Placing}
use Rattle.deck_lines.specs.declared.saying.Saying.{Saying}
use Rattle.deck_lines.specs.declared.saying.Saying.TheVariants as said
use Rattle.deck_reader.specs.declared.step.Stage.{Stage}
use Rattle.deck_reader.specs.declared.step.Stage.TheVariants as at
use Rattle.deck_reader.specs.declared.step.LineOutcome.{LineOutcome}
use Rattle.deck_reader.specs.declared.step.LineOutcome.TheVariants as step
use Rattle.deck_reader.specs.declared.told.Told.{Told}
use Rattle.deck_reader.specs.declared.told.Told.TheVariants as told
use Rattle.deck_reader.proofs.EachLemmas.{IsDoneTo}
use Rattle.tal_tree.specs.declared.limit.DeckLimit.TheVariants as deck_limit

-- how long the texts are that were told up to a stage
abbrev stage_size : Stage → ℕ
stage_size at.Opening = 0
stage_size (at.Blocks outline) = text_size outline.processes
stage_size (at.Program outline heading program) = text_size outline.processes + length program.text
stage_size (at.Requests outline name terminal) = text_size outline.processes
stage_size (at.Schedule outline) = text_size outline.processes
stage_size (at.Ended outline) = text_size outline.processes

-- at most so much was told
abbrev IsWithin : ℕ → LineOutcome → Type 0
IsWithin n (step.Next stage) = stage_size stage ≤ n
IsWithin n (step.Broken breach) = breach_size breach ≤ n

size-more : (processes : List (Named ProcessLines)) (one : Named ProcessLines)
    → text_size (processes ++ one ∷ []) ≡ text_size processes + body_size one.1.body
size-more [] one = omega arith
size-more (lines ∷ rest) one = omega (arith, size-more rest one)

disc_within : (outline : Outline) (number : ℕ) (placing : Placing) (sectors : ℕ) (mirrored : Bool)
    → IsWithin (text_size outline.processes) (disc_told outline number (disc_of outline placing sectors mirrored))
disc_within outline number placing sectors mirrored = by (heading_of outline placing)
  where
    sized : (heading : Heading) (a b : Bool)
        → IsWithin (text_size outline.processes)
        (disc_told outline number (cond a (Err (fault.Limit deck_limit.Sectors))
        (cond b (Err (fault.Limit deck_limit.Sectors)) (Ok (process_with heading (body.Disc sectors mirrored))))))
    sized heading true b = omega arith
    sized heading false true = omega arith
    sized heading false false =
        omega (arith, size-more outline.processes (process_with heading (body.Disc sectors mirrored)))

    by : (o : Result Heading LineFault) → IsWithin (text_size outline.processes)
        (disc_told outline number (with_sectors sectors mirrored o))
    by (Err why) = omega arith
    by (Ok heading) = sized heading (nat_lt sectors 1) (nat_lt 64 sectors)

terminal_within : (outline : Outline) (number : ℕ) (name : List ℕ) (o : Result TerminalLines LineFault)
    → IsWithin (text_size outline.processes) (terminal_told outline number name o)
terminal_within outline number name (Err why) = omega arith
terminal_within outline number name (Ok terminal) = omega arith

blocks_within : (outline : Outline) (number : ℕ) (saying : Saying)
    → IsWithin (text_size outline.processes) (in_blocks outline number saying)
blocks_within outline number said.Nothing = omega arith
blocks_within outline number (said.Disc placing sectors mirrored) = disc_within outline number placing sectors mirrored
blocks_within outline number (said.Pair placing) = omega arith
blocks_within outline number (said.Terminal name target) =
    terminal_within outline number name (terminal_of outline number name target)
blocks_within outline number said.Schedule = omega arith
blocks_within outline number _ = omega arith

requests_within : (outline : Outline) (name : List ℕ) (terminal : TerminalLines) (number : ℕ) (saying : Saying)
    → IsWithin (text_size outline.processes) (in_requests outline name terminal number saying)
requests_within outline name terminal number said.Nothing = omega arith
requests_within outline name terminal number (said.Send words) = by (nat_le 1000 (length terminal.requests))
  where
    by : (b : Bool)
        → IsWithin (text_size outline.processes)
        (cond b (step.Broken (record {
          processes = outline.processes;
          own = None;
          line = number;
          why = fault.Limit deck_limit.Requests;
        })) (step.Next (at.Requests outline name
        (record terminal { requests = terminal.requests ++ words ∷ [] }))))
    by true = omega arith
    by false = omega arith
requests_within outline name terminal number said.LongSend = by (nat_le 1000 (length terminal.requests))
  where
    by : (b : Bool)
        → IsWithin (text_size outline.processes)
        (cond b (step.Broken (record {
          processes = outline.processes;
          own = None;
          line = number;
          why = fault.Limit deck_limit.Requests;
        })) (step.Broken (record {
          processes =
              outline.processes;
          own = None;
          line = number;
          why = fault.Limit deck_limit.RequestWords;
        })))
    by true = omega arith
    by false = omega arith
requests_within outline name terminal number (said.Disc placing sectors mirrored) =
    blocks_within (with_terminal outline name terminal) number (said.Disc placing sectors mirrored)
requests_within outline name terminal number (said.Pair placing) =
    blocks_within (with_terminal outline name terminal) number (said.Pair placing)
requests_within outline name terminal number (said.Terminal other target) =
    blocks_within (with_terminal outline name terminal) number (said.Terminal other target)
requests_within outline name terminal number said.Schedule =
    blocks_within (with_terminal outline name terminal) number said.Schedule
requests_within outline name terminal number _ = omega arith

opening_within : (number : ℕ) (saying : Saying) → IsWithin 0 (opening number saying)
opening_within number said.Nothing = omega arith
opening_within number (said.Processors count) = by (nat_lt count 2) (nat_lt 16 count)
  where
    by : (a b : Bool) → IsWithin 0 (site_told number
        (cond a (Err (fault.Limit deck_limit.Processors)) (cond b (Err (fault.Limit deck_limit.Processors))
        (Ok (outline_with count)))))
    by true b = omega arith
    by false true = omega arith
    by false false = omega arith
opening_within number _ = omega arith

-- an event line adds no text of a program
event_within : (outline : Outline) (number : ℕ) (saying : EventSaying) (o : Result Sums LineFault)
    → IsWithin (text_size outline.processes) (asked outline number saying o)
event_within outline number saying (Err why) = omega arith
event_within outline number saying (Ok sums) = omega arith

schedule_within : (outline : Outline) (number : ℕ) (saying : Saying)
    → IsWithin (text_size outline.processes) (in_schedule outline number saying)
schedule_within outline number said.Nothing = omega arith
schedule_within outline number said.End = omega arith
schedule_within outline number (said.Event saying) =
    event_within outline number saying (asks outline.processors outline.events.sums saying)
schedule_within outline number _ = omega arith

ended_within : (outline : Outline) (number : ℕ) (saying : Saying)
    → IsWithin (text_size outline.processes) (ended outline number saying)
ended_within outline number said.Nothing = omega arith
ended_within outline number _ = omega arith

program_within : (outline : Outline) (heading : Result Heading LineFault) (program : ProgramLines) (line : List ℕ)
    → IsWithin (text_size outline.processes + length program.text + (length line + 1))
    (in_program outline heading program line)
program_within outline heading program line = by (bytes_eq line (codes "."))
  where
    at_point : (o : Result Heading LineFault)
        → IsWithin (text_size outline.processes + length program.text + (length line + 1))
        (program_ended outline o program)
    at_point (Err why) = omega arith
    at_point (Ok told) = omega (arith, size-more outline.processes (process_with told (body.Pair program)))

    by : (b : Bool)
        → IsWithin (text_size outline.processes + length program.text + (length line + 1))
        (cond b (program_ended outline heading program)
        (step.Next (at.Program outline heading (record program { text = program.text ++ line ++ 10 ∷ [] }))))
    by true = at_point heading
    by false = omega (arith, length-append (program.text ++ line) (10 ∷ []), length-append program.text line)

widened : (m n : ℕ) (one : LineOutcome) → m ≤ n → IsWithin m one → IsWithin n one
widened m n (step.Next stage) h k = omega (arith, h, k)
widened m n (step.Broken breach) h k = omega (arith, h, k)

next_within : (stage : Stage) (number : ℕ) (line : List ℕ)
    → IsWithin (stage_size stage + (length line + 1)) (next_stage stage number line)
next_within (at.Program outline heading program) number line = program_within outline heading program line
next_within at.Opening number line = widened 0 (0 + (length line + 1)) (opening number (saying_of line)) (omega arith)
    (opening_within number (saying_of line))
next_within (at.Blocks outline) number line =
    widened (text_size outline.processes) (text_size outline.processes + (length line + 1))
    (in_blocks outline number (saying_of line)) (omega arith) (blocks_within outline number (saying_of line))
next_within (at.Requests outline name terminal) number line =
    widened (text_size outline.processes) (text_size outline.processes + (length line + 1))
    (in_requests outline name terminal number (saying_of line)) (omega arith)
    (requests_within outline name terminal number (saying_of line))
next_within (at.Schedule outline) number line =
    widened (text_size outline.processes) (text_size outline.processes + (length line + 1))
    (in_schedule outline number (saying_of line)) (omega arith) (schedule_within outline number (saying_of line))
next_within (at.Ended outline) number line =
    widened (text_size outline.processes) (text_size outline.processes + (length line + 1))
    (ended outline number (saying_of line)) (omega arith) (ended_within outline number (saying_of line))

-- how long lines are with their line feeds
abbrev total : List (List ℕ) → ℕ
total [] = 0
total (line ∷ lines) = length line + 1 + total lines

-- at most so much is told in all
abbrev pub TellsWithin : ℕ → Told → Type 0
TellsWithin n (told.Whole outline) = text_size outline.processes ≤ n
TellsWithin n (told.Broken breach) = breach_size breach ≤ n

end_within : (stage : Stage) (count : ℕ) → TellsWithin (stage_size stage) (at_end stage count)
end_within at.Opening count = omega arith
end_within (at.Blocks outline) count = omega arith
end_within (at.Program outline (Err why) program) count = omega arith
end_within (at.Program outline (Ok heading) program) count = omega arith
end_within (at.Requests outline name terminal) count = omega arith
end_within (at.Schedule outline) count = omega arith
end_within (at.Ended outline) count = omega arith

told_widened : (m n : ℕ) (all : Told) → m ≤ n → TellsWithin m all → TellsWithin n all
told_widened m n (told.Whole outline) h k = omega (arith, h, k)
told_widened m n (told.Broken breach) h k = omega (arith, h, k)

all_within : (stage : Stage) (count : ℕ) (lines : List (List ℕ))
    → TellsWithin (stage_size stage + total lines) (told_after stage count lines)
all_within stage count [] =
    told_widened (stage_size stage) (stage_size stage + 0) (at_end stage count) (omega arith) (end_within stage count)
all_within stage count (line ∷ lines) =
    by (λ next. all_within next (count + 1) lines) (next_stage stage (count + 1) line)
    (next_within stage (count + 1) line)
  where
    by : ((next : Stage) → TellsWithin (stage_size next + total lines) (told_after next (count + 1) lines))
        → (one : LineOutcome) → IsWithin (stage_size stage + (length line + 1)) one
        → TellsWithin (stage_size stage + (length line + 1 + total lines))
        (led_on (λ next. told_after next (count + 1) lines) one)
    by later (step.Next next) h =
        told_widened (stage_size next + total lines) (stage_size stage + (length line + 1 + total lines))
        (told_after next (count + 1) lines) (omega (arith, h)) (later next)
    by later (step.Broken breach) h = omega (arith, h)

longer : (c n : ℕ) (lines : List (List ℕ)) → total lines ≤ n + 1 → total (before_first c lines) ≤ n + 2
longer c n [] h = omega arith
longer c n (line ∷ lines) h = omega arith

total_within : (text : List ℕ) → total (lines_of text) ≤ length text + 1
total_within [] = omega arith
total_within (c ∷ cs) = by (total_within cs) (nat_eq c 10)
  where
    by : total (lines_of cs) ≤ length cs + 1 → (b : Bool)
        → total (cond b ([] ∷ lines_of cs) (before_first c (lines_of cs))) ≤ suc (length cs) + 1
    by h true = omega arith
    by h false = omega (arith, longer c (length cs) (lines_of cs) h)

pub texts_within : (bytes : List ℕ) → TellsWithin (length bytes + 1) (outline_of (lines_of bytes))
texts_within bytes = told_widened (0 + total (lines_of bytes)) (length bytes + 1) (outline_of (lines_of bytes))
    (omega (arith, total_within bytes)) (all_within at.Opening 0 (lines_of bytes))

-- the text of one program is no longer than all
size_among : (front later : List (Named ProcessLines)) (one : Named ProcessLines)
    → body_size one.1.body ≤ text_size (front ++ one ∷ later)
size_among [] later one = omega arith
size_among (x ∷ xs) later one = omega (arith, size_among xs later one)

pub size_left : (all rest later : List (Named ProcessLines)) (one : Named ProcessLines) (specs : List ProcessSpec)
    → IsDoneTo IsProcessOf all rest specs → rest ≡ one ∷ later → body_size one.1.body ≤ text_size all
size_left all rest later one specs done e =
    subst (λ lines. body_size one.1.body ≤ text_size lines) (sym (done.whole ∙ ap (λ xs. done.front ++ xs) e))
    (size_among done.front later one)

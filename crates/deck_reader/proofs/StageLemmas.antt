-- What is told up to a stage keeps the limits of a deck.
use Rattle.std.proofs.Common.{◌≡◌, ℕ, ◌+◌, ◌<◌, ◌≤◌, Bool, true, false, not, cond, nat_eq, nat_le, nat_lt, List, []}
use Rattle.std.proofs.Common.{◌∷◌, ◌++◌, length, Option, Some, None, Result, Ok, Err, refl, sym, ap, ◌∙◌, subst, arith}
use Rattle.std.proofs.Common.{length-append}
use Rattle.std.specs.Prelude.{◌≢◌, codes}
use Rattle.std.specs.List.{All}
use Rattle.std.specs.Str.{bytes_eq}
use Rattle.std.proofs.lemmas.Bool.Decides.{nat_tests}
use Rattle.std.proofs.lemmas.List.Elements.{All-append, All-cons, All-nil}
use Rattle.name_table.specs.Entries.{Named, has_name}
use Rattle.schedule.specs.declared.line.Line.{Line}
use Rattle.deck_reader.specs.EventLineOf.{event_line}
use Rattle.deck_reader.specs.Few.{AreFew, HasFew}
use Rattle.deck_reader.specs.Fresh.{HasNew, IsNewHeading}
use Rattle.deck_reader.specs.LineFaults.{is_new, asks, disc_of, heading_of, outline_with, process_with, terminal_of}
use Rattle.deck_reader.specs.LineFaults.{with_sectors}
use Rattle.deck_reader.specs.Outlined.{asked, at_end, disc_told, ended, in_blocks, in_program, in_requests, in_schedule}
use Rattle.deck_reader.specs.Outlined.{led_on, next_stage, opening, program_ended, site_told, terminal_told, told_after}
use Rattle.deck_reader.specs.Outlined.{outline_of, with_event, with_process, with_terminal}
use Rattle.deck_lines.specs.SayingOf.{saying_of}
use Rattle.deck_reader.specs.Schedules.{IsLineOf, singles_of, rounds_of}
use Rattle.deck_lines.specs.declared.event_saying.EventSaying.{EventSaying}
use Rattle.deck_reader.specs.declared.line_fault.LineFault.{LineFault}
use Rattle.deck_reader.specs.declared.line_fault.LineFault.TheVariants as fault
use Rattle.deck_reader.specs.declared.outline.Body.{Body}
use Rattle.deck_reader.specs.declared.outline.Body.TheVariants as body
use Rattle.deck_reader.specs.declared.outline.EventLines.{EventLines}
use Rattle.deck_reader.specs.declared.outline.Heading.{Heading}
use Rattle.deck_reader.specs.declared.outline.Outline.{Outline}
use Rattle.deck_reader.specs.declared.outline.ProcessLines.{ProcessLines}
use Rattle.deck_reader.specs.declared.outline.ProgramLines.{ProgramLines}
use Rattle.deck_reader.specs.declared.outline.Sums.{Sums}
use Rattle.deck_reader.specs.declared.outline.TerminalLines.{TerminalLines}
use Rattle.deck_lines.specs.declared.saying.Placing.{Placing}
use Rattle.deck_lines.specs.declared.saying.Saying.{Saying}
use Rattle.deck_lines.specs.declared.saying.Saying.TheVariants as said
use Rattle.deck_reader.specs.declared.step.Stage.{Stage}
use Rattle.deck_reader.specs.declared.step.Stage.TheVariants as at
use Rattle.deck_reader.specs.declared.step.LineOutcome.{LineOutcome}
use Rattle.deck_reader.specs.declared.step.LineOutcome.TheVariants as step
use Rattle.deck_reader.specs.declared.told.Told.{Told}
use Rattle.deck_reader.specs.declared.told.Told.TheVariants as told
use Rattle.deck_reader.proofs.FreshLemmas.{heading_new, new_names}
use Rattle.deck_reader.proofs.ScheduleLemmas.{AreFewAsked, AsksMore, asks_more, line_asked, rounds_asked, rounds_with}
use Rattle.deck_reader.proofs.ScheduleLemmas.{singles_asked, singles_with}
use Rattle.tal_tree.specs.declared.limit.DeckLimit.TheVariants as deck_limit

-- two different processors of the deck
pub record HeadingKeeps (processors : ℕ) (heading : Heading) : Type 0 where
  pub primary : heading.primary < processors
  pub backup : heading.backup < processors
  pub apart : heading.primary ≢ heading.backup

abbrev pub BodyKeeps : Body → Type 0
BodyKeeps (body.Disc sectors mirrored) = (1 ≤ sectors) × (sectors ≤ 64)
BodyKeeps (body.Pair lines) = Unit {0}

pub record LinesKeep (processors : ℕ) (lines : Named ProcessLines) : Type 0 where
  pub primary : lines.1.primary < processors
  pub backup : lines.1.backup < processors
  pub apart : lines.1.primary ≢ lines.1.backup
  pub body : BodyKeeps lines.1.body

pub process_keeps : (processors : ℕ) (heading : Heading) (body : Body) → HeadingKeeps processors heading
    → BodyKeeps body → LinesKeep processors (process_with heading body)
process_keeps processors heading body keeps own =
    record { primary = keeps.primary; backup = keeps.backup; apart = keeps.apart; body = own }

abbrev pub TerminalKeeps : Named TerminalLines → Type 0
TerminalKeeps terminal = length terminal.1.requests ≤ 1000

-- the processors, the processes and the terminals keep the limits
pub record BlocksKeep (outline : Outline) : Type 0 where
  pub processors : (2 ≤ outline.processors) × (outline.processors ≤ 16)
  pub few : AreFew outline
  pub each_process : All (LinesKeep outline.processors) outline.processes
  pub each_terminal : All TerminalKeeps outline.terminals

-- the event lines are of these processes and terminals, and ask for no more than is counted, which keeps the limits
pub record EventsFit (outline : Outline) : Type 0 where
  pub each_line : All (IsLineOf outline.processors (length outline.processes) (length outline.terminals))
      outline.events.lines
  pub singles : singles_of outline.events.lines ≤ outline.events.sums.singles
  pub rounds : rounds_of outline.events.lines ≤ outline.events.sums.rounds
  pub few : AreFewAsked outline.events.sums

abbrev no_events : EventLines
no_events = record { lines = []; sums = record { singles = 0; rounds = 0 }; unknown = None }

-- there is room for the pair of a heading, and it keeps the limits
abbrev pub PairKeeps : Outline → Result Heading LineFault → Type 0
PairKeeps outline (Err why) = Unit {0}
PairKeeps outline (Ok heading) = (length outline.processes < 16) × HeadingKeeps outline.processors heading

-- there is room for a terminal, it keeps the limits, and its name is new
pub record TerminalFits (outline : Outline) (name : List ℕ) (terminal : TerminalLines) : Type 0 where
  pub room : length outline.terminals < 16
  pub keeps : TerminalKeeps (name, terminal)
  pub fresh : has_name outline.terminals name ≡ false

-- the limits are kept up to a stage, and event lines come last
abbrev pub StageKeeps : Stage → Type 0
StageKeeps at.Opening = Unit {0}
StageKeeps (at.Blocks outline) = BlocksKeep outline × (outline.events ≡ no_events)
StageKeeps (at.Program outline heading program) =
    BlocksKeep outline × (outline.events ≡ no_events) × PairKeeps outline heading × IsNewHeading outline heading
StageKeeps (at.Requests outline name terminal) =
    BlocksKeep outline × (outline.events ≡ no_events) × TerminalFits outline name terminal
StageKeeps (at.Schedule outline) = BlocksKeep outline × EventsFit outline
StageKeeps (at.Ended outline) = BlocksKeep outline × EventsFit outline

pub few_kept : (stage : Stage) → StageKeeps stage → HasFew stage
few_kept at.Opening keeps = tt
few_kept (at.Blocks outline) keeps = keeps.0.few
few_kept (at.Program outline heading program) keeps = keeps.0.few
few_kept (at.Requests outline name terminal) keeps = keeps.0.few
few_kept (at.Schedule outline) keeps = keeps.0.few
few_kept (at.Ended outline) keeps = keeps.0.few

pub fresh_kept : (stage : Stage) → StageKeeps stage → HasNew stage
fresh_kept at.Opening keeps = tt
fresh_kept (at.Blocks outline) keeps = tt
fresh_kept (at.Program outline heading program) keeps = keeps.3
fresh_kept (at.Requests outline name terminal) keeps = keeps.2.fresh
fresh_kept (at.Schedule outline) keeps = tt
fresh_kept (at.Ended outline) keeps = tt

-- so does the next stage, if there is one
abbrev Keeps : LineOutcome → Type 0
Keeps (step.Next stage) = StageKeeps stage
Keeps (step.Broken breach) = Unit {0}

all_more : {X : Type 0} (P : X → Type 0) (xs : List X) (x : X) → All P xs → P x → All P (xs ++ x ∷ [])
all_more P xs x all one = All-append P xs (x ∷ []) all (All-cons P x [] one (All-nil P))

process_kept : (outline : Outline) (lines : Named ProcessLines) → BlocksKeep outline → length outline.processes < 16
    → LinesKeep outline.processors lines → BlocksKeep (with_process outline lines)
process_kept outline lines keeps room one = record {
  processors = keeps.processors;
  few = record {
    processes = omega (arith, room, length-append outline.processes (lines ∷ []));
    terminals = keeps.few.terminals;
  };
  each_process = all_more (LinesKeep outline.processors) outline.processes lines keeps.each_process one;
  each_terminal = keeps.each_terminal;
}

terminal_kept : (outline : Outline) (name : List ℕ) (terminal : TerminalLines) → BlocksKeep outline
    → TerminalFits outline name terminal → BlocksKeep (with_terminal outline name terminal)
terminal_kept outline name terminal keeps one = record {
  processors = keeps.processors;
  few = record {
    processes = keeps.few.processes;
    terminals = omega (arith, one.room, length-append outline.terminals ((name, terminal) ∷ []));
  };
  each_process = keeps.each_process;
  each_terminal = all_more TerminalKeeps outline.terminals (name, terminal) keeps.each_terminal one.keeps;
}

heading_kept : (outline : Outline) (placing : Placing) → PairKeeps outline (heading_of outline placing)
heading_kept outline placing =
    by (not (is_new outline placing.name)) (nat_eq placing.primary placing.backup)
    (nat_le outline.processors placing.primary) (nat_le outline.processors placing.backup)
    (nat_le 16 (length outline.processes)) refl refl refl refl
  where
    by : (a b c d e : Bool) → nat_eq placing.primary placing.backup ≡ b → nat_le outline.processors placing.primary ≡ c
        → nat_le outline.processors placing.backup ≡ d → nat_le 16 (length outline.processes) ≡ e
        → PairKeeps outline (cond a (Err fault.NameTwice)
        (cond b (Err fault.SameProcessor) (cond c (Err fault.NoProcessor) (cond d (Err fault.NoProcessor)
        (cond e (Err (fault.Limit deck_limit.Processes)) (Ok (record
        { name = placing.name; primary = placing.primary; backup = placing.backup })))))))
    by true b c d e p q r s = tt
    by false true c d e p q r s = tt
    by false false true d e p q r s = tt
    by false false false true e p q r s = tt
    by false false false false true p q r s = tt
    by false false false false false p q r s = (
      grind (arith, nat_tests),
      record {
        primary = grind (arith, nat_tests);
        backup = grind (arith, nat_tests);
        apart = λ same. absurd (grind (arith, nat_tests));
      },
    )

disc_kept : (outline : Outline) (number : ℕ) (placing : Placing) (sectors : ℕ) (mirrored : Bool) → BlocksKeep outline
    → outline.events ≡ no_events → Keeps (disc_told outline number (disc_of outline placing sectors mirrored))
disc_kept outline number placing sectors mirrored keeps none =
    by (heading_of outline placing) (heading_kept outline placing)
  where
    sized : (heading : Heading) → PairKeeps outline (Ok heading) → (a b : Bool) → nat_lt sectors 1 ≡ a
        → nat_lt 64 sectors ≡ b
        → Keeps (disc_told outline number (cond a (Err (fault.Limit deck_limit.Sectors))
        (cond b (Err (fault.Limit deck_limit.Sectors)) (Ok (process_with heading (body.Disc sectors mirrored))))))
    sized heading pair true b p q = tt
    sized heading pair false true p q = tt
    sized heading pair false false p q = (
      process_kept outline (process_with heading (body.Disc sectors mirrored)) keeps pair.0
          (process_keeps outline.processors heading (body.Disc sectors mirrored) pair.1
          (grind (arith, nat_tests), grind (arith, nat_tests))),
      none,
    )

    by : (o : Result Heading LineFault) → PairKeeps outline o
        → Keeps (disc_told outline number (with_sectors sectors mirrored o))
    by (Err why) pair = tt
    by (Ok heading) pair = sized heading pair (nat_lt sectors 1) (nat_lt 64 sectors) refl refl

terminal_begun : (outline : Outline) (number : ℕ) (name target : List ℕ) → BlocksKeep outline
    → outline.events ≡ no_events → Keeps (terminal_told outline number name (terminal_of outline number name target))
terminal_begun outline number name target keeps none =
    by (not (is_new outline name)) (nat_le 16 (length outline.terminals)) refl refl
  where
    by : (a b : Bool) → not (is_new outline name) ≡ a → nat_le 16 (length outline.terminals) ≡ b
        → Keeps (terminal_told outline number name
        (cond a (Err fault.NameTwice) (cond b (Err (fault.Limit deck_limit.Terminals))
        (Ok (record { line = number; target = target; requests = [] })))))
    by true b o p = tt
    by false true o p = tt
    by false false o p = (
      keeps,
      none,
      record
          { room = grind (arith, nat_tests); keeps = omega arith; fresh = (new_names outline name o).1 },
    )

blocks_kept : (outline : Outline) (number : ℕ) (saying : Saying) → BlocksKeep outline → outline.events ≡ no_events
    → Keeps (in_blocks outline number saying)
blocks_kept outline number said.Nothing keeps none = (keeps, none)
blocks_kept outline number (said.Disc placing sectors mirrored) keeps none =
    disc_kept outline number placing sectors mirrored keeps none
blocks_kept outline number (said.Pair placing) keeps none =
    (keeps, none, heading_kept outline placing, heading_new outline placing)
blocks_kept outline number (said.Terminal name target) keeps none = terminal_begun outline number name target keeps none
blocks_kept outline number said.Schedule keeps none =
    let of = IsLineOf outline.processors (length outline.processes) (length outline.terminals) in (
      keeps,
      record {
        each_line = subst (λ (events : EventLines). All of events.lines) (sym none) (All-nil of);
        singles = omega (arith, ap (λ (events : EventLines). singles_of events.lines) none);
        rounds = omega (arith, ap (λ (events : EventLines). rounds_of events.lines) none);
        few = record {
          singles = omega (arith, ap (λ (events : EventLines). events.sums.singles) none);
          rounds = omega (arith, ap (λ (events : EventLines). events.sums.rounds) none);
        };
      },
    )
blocks_kept outline number _ keeps none = tt

request_kept : (outline : Outline) (name : List ℕ) (terminal : TerminalLines) (number : ℕ) (saying : Saying)
    → StageKeeps (at.Requests outline name terminal) → Keeps (in_requests outline name terminal number saying)
request_kept outline name terminal number said.Nothing keeps = keeps
request_kept outline name terminal number (said.Send words) keeps = by (nat_le 1000 (length terminal.requests)) refl
  where
    by : (b : Bool) → nat_le 1000 (length terminal.requests) ≡ b
        → Keeps (cond b (step.Broken (record {
          processes = outline.processes;
          own = None;
          line = number;
          why = fault.Limit deck_limit.Requests;
        })) (step.Next (at.Requests outline name
        (record terminal { requests = terminal.requests ++ words ∷ [] }))))
    by true over = tt
    by false within = let few : length terminal.requests < 1000 = grind (arith, nat_tests) in (
      keeps.0,
      keeps.1,
      record {
        room = keeps.2.room;
        keeps = omega (arith, few, length-append terminal.requests (words ∷ []));
        fresh = keeps.2.fresh;
      },
    )
request_kept outline name terminal number said.LongSend keeps = by (nat_le 1000 (length terminal.requests))
  where
    by : (b : Bool) → Keeps (cond b (step.Broken
        (record { processes = outline.processes; own = None; line = number; why = fault.Limit deck_limit.Requests }))
        (step.Broken (record {
          processes = outline.processes;
          own = None;
          line = number;
          why = fault.Limit
              deck_limit.RequestWords;
        })))
    by true = tt
    by false = tt
request_kept outline name terminal number (said.Disc placing sectors mirrored) keeps =
    blocks_kept (with_terminal outline name terminal) number (said.Disc placing sectors mirrored)
    (terminal_kept outline name terminal keeps.0 keeps.2) keeps.1
request_kept outline name terminal number (said.Pair placing) keeps =
    blocks_kept (with_terminal outline name terminal) number (said.Pair placing)
    (terminal_kept outline name terminal keeps.0 keeps.2) keeps.1
request_kept outline name terminal number (said.Terminal other target) keeps =
    blocks_kept (with_terminal outline name terminal) number (said.Terminal other target)
    (terminal_kept outline name terminal keeps.0 keeps.2) keeps.1
request_kept outline name terminal number said.Schedule keeps =
    blocks_kept (with_terminal outline name terminal) number said.Schedule
    (terminal_kept outline name terminal keeps.0 keeps.2) keeps.1
request_kept outline name terminal number _ keeps = tt

opening_kept : (number : ℕ) (saying : Saying) → Keeps (opening number saying)
opening_kept number said.Nothing = tt
opening_kept number (said.Processors count) = by (nat_lt count 2) (nat_lt 16 count) refl refl
  where
    by : (a b : Bool) → nat_lt count 2 ≡ a → nat_lt 16 count ≡ b
        → Keeps (site_told number (cond a (Err (fault.Limit deck_limit.Processors))
        (cond b (Err (fault.Limit deck_limit.Processors)) (Ok (outline_with count)))))
    by true b p q = tt
    by false true p q = tt
    by false false p q = (
      record {
        processors = (grind (arith, nat_tests), grind (arith, nat_tests));
        few = record { processes = omega arith; terminals = omega arith };
        each_process = All-nil (LinesKeep count);
        each_terminal = All-nil TerminalKeeps;
      },
      refl,
    )
opening_kept number _ = tt

-- one more event line, with what is asked for
with_line : (outline : Outline) (number : ℕ) (saying : EventSaying) (sums : Sums) → BlocksKeep outline
    → EventsFit outline → AsksMore outline.events.sums (singles_asked saying) (rounds_asked saying) (Ok sums)
    → (o : Option Line) → event_line outline saying ≡ o
    → StageKeeps (at.Schedule (record outline { events = with_event outline.events number sums o }))
with_line outline number saying sums keeps fit more o e = (
  record {
    processors = keeps.processors;
    few = record { processes = keeps.few.processes; terminals = keeps.few.terminals };
    each_process =
        keeps.each_process;
    each_terminal = keeps.each_terminal;
  },
  by o e,
)
  where
    by : (o : Option Line) → event_line outline saying ≡ o
        → EventsFit (record outline { events = with_event outline.events number sums o })
    by None e = record {
      each_line = fit.each_line;
      singles = omega (arith, fit.singles, more.singles);
      rounds = omega (arith, fit.rounds, more.rounds);
      few = more.few;
    }
    by (Some line) e =
        let one = line_asked outline saying line e in record {
          each_line = all_more (IsLineOf outline.processors (length outline.processes) (length outline.terminals))
              outline.events.lines line fit.each_line one.of_site;
          singles = omega (arith, fit.singles, more.singles, one.singles, singles_with outline.events.lines line);
          rounds = omega (arith, fit.rounds, more.rounds, one.rounds, rounds_with outline.events.lines line);
          few = more.few;
        }

event_kept : (outline : Outline) (number : ℕ) (saying : EventSaying) → BlocksKeep outline → EventsFit outline
    → Keeps (asked outline number saying (asks outline.processors outline.events.sums saying))
event_kept outline number saying keeps fit =
    by (asks outline.processors outline.events.sums saying)
    (asks_more outline.processors outline.events.sums saying fit.few)
  where
    by : (o : Result Sums LineFault) → AsksMore outline.events.sums (singles_asked saying) (rounds_asked saying) o
        → Keeps (asked outline number saying o)
    by (Err why) more = tt
    by (Ok sums) more = with_line outline number saying sums keeps fit more (event_line outline saying) refl

schedule_kept : (outline : Outline) (number : ℕ) (saying : Saying) → BlocksKeep outline → EventsFit outline
    → Keeps (in_schedule outline number saying)
schedule_kept outline number said.Nothing keeps fit = (keeps, fit)
schedule_kept outline number (said.Event saying) keeps fit = event_kept outline number saying keeps fit
schedule_kept outline number said.End keeps fit = (keeps, fit)
schedule_kept outline number _ keeps fit = tt

ended_kept : (outline : Outline) (number : ℕ) (saying : Saying) → BlocksKeep outline → EventsFit outline
    → Keeps (ended outline number saying)
ended_kept outline number said.Nothing keeps fit = (keeps, fit)
ended_kept outline number _ keeps fit = tt

program_kept : (outline : Outline) (heading : Result Heading LineFault) (program : ProgramLines) (line : List ℕ)
    → StageKeeps (at.Program outline heading program) → Keeps (in_program outline heading program line)
program_kept outline heading program line keeps = by (bytes_eq line (codes "."))
  where
    at_point : (o : Result Heading LineFault) → PairKeeps outline o → Keeps (program_ended outline o program)
    at_point (Err why) pair = tt
    at_point (Ok told) pair = (
      process_kept outline (process_with told (body.Pair program)) keeps.0 pair.0
          (process_keeps outline.processors told (body.Pair program) pair.1 tt),
      keeps.1,
    )

    by : (b : Bool) → Keeps (cond b (program_ended outline heading program)
        (step.Next (at.Program outline heading (record program { text = program.text ++ line ++ 10 ∷ [] }))))
    by true = at_point heading keeps.2
    by false = keeps

-- one more line keeps the limits
pub next_kept : (stage : Stage) (number : ℕ) (line : List ℕ) → StageKeeps stage → Keeps (next_stage stage number line)
next_kept at.Opening number line keeps = opening_kept number (saying_of line)
next_kept (at.Blocks outline) number line keeps = blocks_kept outline number (saying_of line) keeps.0 keeps.1
next_kept (at.Program outline heading program) number line keeps = program_kept outline heading program line keeps
next_kept (at.Requests outline name terminal) number line keeps =
    request_kept outline name terminal number (saying_of line) keeps
next_kept (at.Schedule outline) number line keeps = schedule_kept outline number (saying_of line) keeps.0 keeps.1
next_kept (at.Ended outline) number line keeps = ended_kept outline number (saying_of line) keeps.0 keeps.1

pub stage_kept : (stage next : Stage) (number : ℕ) (line : List ℕ) → StageKeeps stage
    → step.Next next ≡ next_stage stage number line → StageKeeps next
stage_kept stage next number line keeps e = subst Keeps (sym e) (next_kept stage number line keeps)

-- the lines after one lead from its stage where they lead with it
pub one_line_on : (stage next : Stage) (count : ℕ) (line : List ℕ) (rest lines : List (List ℕ)) → lines ≡ line ∷ rest
    → step.Next next ≡ next_stage stage (count + 1) line
    → told_after next (count + 1) rest ≡ told_after stage count lines
one_line_on stage next count line rest lines is e =
    ap (led_on (λ later. told_after later (count + 1) rest)) e ∙ sym (ap (told_after stage count) is)

-- the line that can't stand ends what is told
pub line_broken : (stage : Stage) (count : ℕ) (line : List ℕ) (rest lines : List (List ℕ)) (breach : _)
    → lines ≡ line ∷ rest → step.Broken breach ≡ next_stage stage (count + 1) line
    → told.Broken breach ≡ told_after stage count lines
line_broken stage count line rest lines breach is e =
    ap (led_on (λ later. told_after later (count + 1) rest)) e ∙ sym (ap (told_after stage count) is)

-- the limits are kept where all is told
abbrev TellsKept : Told → Type 0
TellsKept (told.Whole outline) = BlocksKeep outline × EventsFit outline
TellsKept (told.Broken breach) = Unit {0}

end_kept : (stage : Stage) (count : ℕ) → StageKeeps stage → TellsKept (at_end stage count)
end_kept at.Opening count keeps = tt
end_kept (at.Blocks outline) count keeps = tt
end_kept (at.Program outline (Err why) program) count keeps = tt
end_kept (at.Program outline (Ok heading) program) count keeps = tt
end_kept (at.Requests outline name terminal) count keeps = tt
end_kept (at.Schedule outline) count keeps = tt
end_kept (at.Ended outline) count keeps = keeps

lines_kept : (stage : Stage) (count : ℕ) (lines : List (List ℕ)) → StageKeeps stage
    → TellsKept (told_after stage count lines)
lines_kept stage count [] keeps = end_kept stage count keeps
lines_kept stage count (line ∷ lines) keeps =
    by (λ next. lines_kept next (count + 1) lines) (next_stage stage (count + 1) line)
    (next_kept stage (count + 1) line keeps)
  where
    by : ((next : Stage) → StageKeeps next → TellsKept (told_after next (count + 1) lines)) → (one : LineOutcome)
        → Keeps one → TellsKept (led_on (λ next. told_after next (count + 1) lines) one)
    by later (step.Next next) h = later next h
    by later (step.Broken breach) h = tt

-- an outline keeps the limits
pub outline_kept : (lines : List (List ℕ)) (outline : Outline) → outline_of lines ≡ told.Whole outline
    → BlocksKeep outline × EventsFit outline
outline_kept lines outline e = subst TellsKept e (lines_kept at.Opening 0 lines tt)

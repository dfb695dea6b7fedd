-- No request of a deck has more than 16 words.
use Rattle.std.proofs.Common.{◌≡◌, ℕ, ◌+◌, ◌≤◌, Bool, true, false, not, cond, nat_le, nat_lt, List, [], ◌∷◌, ◌++◌}
use Rattle.std.proofs.Common.{length, Option, Some, None, Result, Ok, Err, option_map, option_and_then, refl, subst}
use Rattle.std.proofs.Common.{arith, ℤ}
use Rattle.std.specs.List.{All}
use Rattle.std.specs.Prelude.{codes}
use Rattle.std.specs.Str.{bytes_eq}
use Rattle.std.proofs.lemmas.Bool.{leb-true}
use Rattle.std.proofs.lemmas.List.Elements.{All-append, All-cons, All-nil}
use Rattle.gd_words.specs.Spelling.{name_of}
use Rattle.name_table.specs.Entries.{Named}
use Rattle.deck_lines.specs.EventSayingOf.{event_said}
use Rattle.deck_reader.specs.LineFaults.{asks, disc_of, is_new, outline_with, terminal_of}
use Rattle.deck_lines.specs.Lines.{words_of, is_blank, is_printable, one_word, two_words, three_words, four_words}
use Rattle.deck_lines.specs.Numbers.{written_number, word_of}
use Rattle.deck_reader.specs.Outlined.{asked, at_end, breach_at, disc_told, ended, in_blocks, in_program, in_requests}
use Rattle.deck_reader.specs.Outlined.{in_schedule, led_on, next_stage, opening, program_ended, site_told}
use Rattle.deck_reader.specs.Outlined.{terminal_told, told_after, outline_of, with_terminal}
use Rattle.deck_lines.specs.SayingOf.{are_words, is_remark, keyword_of, or_formless, or_long, parts_say, placing_of}
use Rattle.deck_lines.specs.SayingOf.{request_of, request_words, said_by, saying_of, terminal_said}
use Rattle.deck_lines.specs.declared.event_saying.EventSaying.{EventSaying}
use Rattle.deck_reader.specs.declared.line_fault.LineFault.{LineFault}
use Rattle.deck_reader.specs.declared.line_fault.LineFault.TheVariants as fault
use Rattle.deck_reader.specs.declared.outline.Heading.{Heading}
use Rattle.deck_reader.specs.declared.outline.Outline.{Outline}
use Rattle.deck_reader.specs.declared.outline.ProcessLines.{ProcessLines}
use Rattle.deck_reader.specs.declared.outline.ProgramLines.{ProgramLines}
use Rattle.deck_reader.specs.declared.outline.Sums.{Sums}
use Rattle.deck_reader.specs.declared.outline.TerminalLines.{TerminalLines}
use Rattle.deck_lines.specs.declared.saying.Keyword.{Keyword}
use Rattle.deck_lines.specs.declared.saying.Keyword.TheVariants as key
use Rattle.deck_lines.specs.declared.saying.Saying.{Saying}
use Rattle.deck_lines.specs.declared.saying.Saying.TheVariants as said
use Rattle.deck_reader.specs.declared.step.Stage.{Stage}
use Rattle.deck_reader.specs.declared.step.Stage.TheVariants as at
use Rattle.deck_reader.specs.declared.step.LineOutcome.{LineOutcome}
use Rattle.deck_reader.specs.declared.step.LineOutcome.TheVariants as step
use Rattle.deck_reader.specs.declared.told.Told.{Told}
use Rattle.deck_reader.specs.declared.told.Told.TheVariants as told
use Rattle.tal_tree.specs.declared.limit.DeckLimit.TheVariants as deck_limit

-- at most 16 words
abbrev pub IsShort : List ℤ → Type 0
IsShort request = length request ≤ 16

abbrev pub HasShort : Named TerminalLines → Type 0
HasShort terminal = All IsShort terminal.1.requests

abbrev pub HaveShort : Outline → Type 0
HaveShort outline = All HasShort outline.terminals

-- what a line says
abbrev SayingShort : Saying → Type 0
SayingShort (said.Send words) = IsShort words
SayingShort _ = Unit {0}

abbrev SaidShort : Option Saying → Type 0
SaidShort None = Unit {0}
SaidShort (Some saying) = SayingShort saying

short_then : {X : Type 0} (f : X → Option Saying) → ((x : X) → SaidShort (f x)) → (o : Option X)
    → SaidShort (option_and_then f o)
short_then f h None = tt
short_then f h (Some x) = h x

short_map : {X : Type 0} (f : X → Saying) → ((x : X) → SayingShort (f x)) → (o : Option X) → SaidShort (option_map f o)
short_map f h None = tt
short_map f h (Some x) = h x

short_if : (b : Bool) (saying : Saying) → SayingShort saying → SaidShort (cond b (Some saying) None)
short_if true saying h = h
short_if false saying h = tt

-- as many words as are read
abbrev AsMany : List (List ℕ) → Option (List ℤ) → Type 0
AsMany parts None = Unit {0}
AsMany parts (Some words) = length words ≡ length parts

one_more : (part : List ℕ) (parts : List (List ℕ)) (value : Option ℤ) (o : Option (List ℤ)) → AsMany parts o
    → AsMany (part ∷ parts) (option_and_then (λ value. option_map (λ values. value ∷ values) o) value)
one_more part parts None o h = tt
one_more part parts (Some value) None h = tt
one_more part parts (Some value) (Some words) h = let same : length words ≡ length parts = h in omega (arith, same)

as_many : (parts : List (List ℕ)) → AsMany parts (request_words parts)
as_many [] = refl
as_many (part ∷ parts) = one_more part parts (word_of part) (request_words parts) (as_many parts)

request_short : (parts : List (List ℕ)) → SayingShort (or_long (request_of parts))
request_short parts = by (nat_le (length parts) 16) refl
  where
    read : (o : Option (List ℤ)) → AsMany parts o → length parts ≤ 16 → SayingShort (or_long o)
    read None many few = tt
    read (Some words) many few = omega (arith, many, few)

    by : (b : Bool) → nat_le (length parts) 16 ≡ b → SayingShort (or_long (cond b (request_words parts) None))
    by true e = read (request_words parts) (as_many parts) (leb-true (length parts) 16 e)
    by false e = tt

terminal_short : (parts : List (List ℕ)) (o : _) → two_words parts ≡ o → SaidShort (terminal_said parts)
terminal_short parts None e = rw e tt
terminal_short parts (Some words) e = by (name_of words.0) (name_of words.1) refl refl
  where
    by : (name target : Option (List ℕ)) → name_of words.0 ≡ name → name_of words.1 ≡ target
        → SaidShort (terminal_said parts)
    by None target p q = rw (e, p) tt
    by (Some name) None p q = rw (e, p, q) tt
    by (Some name) (Some target) p q = rw (e, p, q) tt

parts_short : (parts : List (List ℕ)) (word : Keyword) → SaidShort (parts_say parts word)
parts_short parts key.Processors =
    short_then _ (λ word. short_map said.Processors (λ count. tt) (written_number word)) (one_word parts)
parts_short parts (key.Disc mirrored) =
    short_then _ (λ words. short_then _ (λ placing.
    short_map (λ sectors. said.Disc placing sectors mirrored) (λ sectors. tt) (written_number words.3))
    (placing_of words.0 words.1 words.2))
    (four_words parts)
parts_short parts key.Pair =
    short_then _ (λ words. short_map said.Pair (λ placing. tt) (placing_of words.0 words.1 words.2)) (three_words parts)
parts_short parts key.Terminal = terminal_short parts (two_words parts) refl
parts_short parts key.Send = short_if (are_words parts) (or_long (request_of parts)) (request_short parts)
parts_short parts key.Schedule = short_if (is_blank parts) said.Schedule tt
parts_short parts (key.Event word) = short_map said.Event (λ saying. tt) (event_said parts word)
parts_short parts key.End = short_if (is_blank parts) said.End tt

said_short : (words : List (List ℕ)) → SaidShort (said_by words)
said_short [] = tt
said_short (word ∷ parts) = by (is_remark word)
  where
    by : (b : Bool) → SaidShort (cond b (Some said.Nothing) (option_and_then (parts_say parts) (keyword_of word)))
    by true = tt
    by false = short_then (parts_say parts) (parts_short parts) (keyword_of word)

saying_short : (line : List ℕ) → SayingShort (saying_of line)
saying_short line = by (is_printable line)
  where
    formed : (o : Option Saying) → SaidShort o → SayingShort (or_formless o)
    formed None h = tt
    formed (Some saying) h = h

    by : (b : Bool) → SayingShort (cond b (or_formless (said_by (words_of line))) said.Formless)
    by true = formed (said_by (words_of line)) (said_short (words_of line))
    by false = tt

-- what is told up to a stage
abbrev StageShort : Stage → Type 0
StageShort at.Opening = Unit {0}
StageShort (at.Blocks outline) = HaveShort outline
StageShort (at.Program outline heading program) = HaveShort outline
StageShort (at.Requests outline name terminal) = HaveShort outline × HasShort (name, terminal)
StageShort (at.Schedule outline) = HaveShort outline
StageShort (at.Ended outline) = HaveShort outline

abbrev StepShort : LineOutcome → Type 0
StepShort (step.Next stage) = StageShort stage
StepShort (step.Broken breach) = Unit {0}

all_more : {X : Type 0} (P : X → Type 0) (xs : List X) (x : X) → All P xs → P x → All P (xs ++ x ∷ [])
all_more P xs x all one = All-append P xs (x ∷ []) all (All-cons P x [] one (All-nil P))

disc_short : (outline : Outline) (number : ℕ) (o : Result (Named ProcessLines) LineFault) → HaveShort outline
    → StepShort (disc_told outline number o)
disc_short outline number (Err why) short = tt
disc_short outline number (Ok process) short = short

terminal_begins : (outline : Outline) (number : ℕ) (name target : List ℕ) → HaveShort outline
    → StepShort (terminal_told outline number name (terminal_of outline number name target))
terminal_begins outline number name target short = by (not (is_new outline name)) (nat_le 16 (length outline.terminals))
  where
    by : (a b : Bool)
        → StepShort (terminal_told outline number name
        (cond a (Err fault.NameTwice) (cond b (Err (fault.Limit deck_limit.Terminals))
        (Ok (record { line = number; target = target; requests = [] })))))
    by true b = tt
    by false true = tt
    by false false = (short, All-nil IsShort)

blocks_short : (outline : Outline) (number : ℕ) (saying : Saying) → HaveShort outline
    → StepShort (in_blocks outline number saying)
blocks_short outline number said.Nothing short = short
blocks_short outline number (said.Disc placing sectors mirrored) short =
    disc_short outline number (disc_of outline placing sectors mirrored) short
blocks_short outline number (said.Pair placing) short = short
blocks_short outline number (said.Terminal name target) short = terminal_begins outline number name target short
blocks_short outline number said.Schedule short = short
blocks_short outline number _ short = tt

requests_short : (outline : Outline) (name : List ℕ) (terminal : TerminalLines) (number : ℕ) (saying : Saying)
    → SayingShort saying → HaveShort outline → HasShort (name, terminal)
    → StepShort (in_requests outline name terminal number saying)
requests_short outline name terminal number said.Nothing one short own = (short, own)
requests_short outline name terminal number (said.Send words) one short own =
    by (nat_le 1000 (length terminal.requests))
  where
    by : (b : Bool)
        → StepShort (cond b (step.Broken (breach_at outline number (fault.Limit deck_limit.Requests)))
        (step.Next (at.Requests outline name (record terminal { requests = terminal.requests ++ words ∷ [] }))))
    by true = tt
    by false = (short, all_more IsShort terminal.requests words own one)
requests_short outline name terminal number said.LongSend one short own = by (nat_le 1000 (length terminal.requests))
  where
    by : (b : Bool) → StepShort (cond b (step.Broken (breach_at outline number (fault.Limit deck_limit.Requests)))
        (step.Broken (breach_at outline number (fault.Limit deck_limit.RequestWords))))
    by true = tt
    by false = tt
requests_short outline name terminal number (said.Disc placing sectors mirrored) one short own =
    blocks_short (with_terminal outline name terminal) number (said.Disc placing sectors mirrored)
    (all_more HasShort outline.terminals (name, terminal) short own)
requests_short outline name terminal number (said.Pair placing) one short own =
    blocks_short (with_terminal outline name terminal) number (said.Pair placing)
    (all_more HasShort outline.terminals (name, terminal) short own)
requests_short outline name terminal number (said.Terminal other target) one short own =
    blocks_short (with_terminal outline name terminal) number (said.Terminal other target)
    (all_more HasShort outline.terminals (name, terminal) short own)
requests_short outline name terminal number said.Schedule one short own =
    blocks_short (with_terminal outline name terminal) number said.Schedule
    (all_more HasShort outline.terminals (name, terminal) short own)
requests_short outline name terminal number _ one short own = tt

opening_short : (number : ℕ) (saying : Saying) → StepShort (opening number saying)
opening_short number said.Nothing = tt
opening_short number (said.Processors count) = by (nat_lt count 2) (nat_lt 16 count)
  where
    by : (a b : Bool) → StepShort (site_told number
        (cond a (Err (fault.Limit deck_limit.Processors)) (cond b (Err (fault.Limit deck_limit.Processors))
        (Ok (outline_with count)))))
    by true b = tt
    by false true = tt
    by false false = All-nil HasShort
opening_short number _ = tt

event_short : (outline : Outline) (number : ℕ) (saying : EventSaying) (o : Result Sums LineFault) → HaveShort outline
    → StepShort (asked outline number saying o)
event_short outline number saying (Err why) short = tt
event_short outline number saying (Ok sums) short = short

schedule_short : (outline : Outline) (number : ℕ) (saying : Saying) → HaveShort outline
    → StepShort (in_schedule outline number saying)
schedule_short outline number said.Nothing short = short
schedule_short outline number said.End short = short
schedule_short outline number (said.Event saying) short =
    event_short outline number saying (asks outline.processors outline.events.sums saying) short
schedule_short outline number _ short = tt

ended_short : (outline : Outline) (number : ℕ) (saying : Saying) → HaveShort outline
    → StepShort (ended outline number saying)
ended_short outline number said.Nothing short = short
ended_short outline number _ short = tt

program_short : (outline : Outline) (heading : Result Heading LineFault) (program : ProgramLines) (line : List ℕ)
    → HaveShort outline
    → StepShort (in_program outline heading program line)
program_short outline heading program line short = by (bytes_eq line (codes "."))
  where
    at_point : (o : Result Heading LineFault) → StepShort (program_ended outline o program)
    at_point (Err why) = tt
    at_point (Ok told) = short

    by : (b : Bool) → StepShort (cond b (program_ended outline heading program)
        (step.Next (at.Program outline heading (record program { text = program.text ++ line ++ 10 ∷ [] }))))
    by true = at_point heading
    by false = short

next_short : (stage : Stage) (number : ℕ) (line : List ℕ) → StageShort stage → StepShort (next_stage stage number line)
next_short at.Opening number line short = opening_short number (saying_of line)
next_short (at.Blocks outline) number line short = blocks_short outline number (saying_of line) short
next_short (at.Program outline heading program) number line short = program_short outline heading program line short
next_short (at.Requests outline name terminal) number line short =
    requests_short outline name terminal number (saying_of line) (saying_short line) short.0 short.1
next_short (at.Schedule outline) number line short = schedule_short outline number (saying_of line) short
next_short (at.Ended outline) number line short = ended_short outline number (saying_of line) short

abbrev ToldShort : Told → Type 0
ToldShort (told.Whole outline) = HaveShort outline
ToldShort (told.Broken breach) = Unit {0}

end_short : (stage : Stage) (count : ℕ) → StageShort stage → ToldShort (at_end stage count)
end_short at.Opening count short = tt
end_short (at.Blocks outline) count short = tt
end_short (at.Program outline (Err why) program) count short = tt
end_short (at.Program outline (Ok heading) program) count short = tt
end_short (at.Requests outline name terminal) count short = tt
end_short (at.Schedule outline) count short = tt
end_short (at.Ended outline) count short = short

lines_short : (stage : Stage) (count : ℕ) (lines : List (List ℕ)) → StageShort stage
    → ToldShort (told_after stage count lines)
lines_short stage count [] short = end_short stage count short
lines_short stage count (line ∷ lines) short =
    by (λ next. lines_short next (count + 1) lines) (next_stage stage (count + 1) line)
    (next_short stage (count + 1) line short)
  where
    by : ((next : Stage) → StageShort next → ToldShort (told_after next (count + 1) lines)) → (one : LineOutcome)
        → StepShort one
        → ToldShort (led_on (λ next. told_after next (count + 1) lines) one)
    by later (step.Next next) h = later next h
    by later (step.Broken breach) h = tt

-- the requests of an outline have at most 16 words each
pub outline_short : (lines : List (List ℕ)) (outline : Outline) → outline_of lines ≡ told.Whole outline
    → HaveShort outline
outline_short lines outline e = subst ToldShort e (lines_short at.Opening 0 lines tt)

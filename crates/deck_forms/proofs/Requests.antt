-- The requests of a deck are words.
use Rattle.std.proofs.Common.{zero, suc, ◌==◌, ◌&&◌}
use Rattle.std.proofs.Common.{◌≡◌, ℕ, ◌+◌, ◌≤◌, Bool, true, false, not, cond, nat_le, nat_lt, List, [], ◌∷◌, ◌++◌}
use Rattle.std.proofs.Common.{length, Option, Some, None, Result, Ok, Err, option_map, option_and_then, refl, subst}
use Rattle.std.proofs.Common.{arith, ℤ}
use Rattle.std.specs.List.{All}
use Rattle.std.specs.Prelude.{codes}
use Rattle.std.specs.Str.{bytes_eq}
use Rattle.std.proofs.lemmas.Bool.{leb-true}
use Rattle.std.proofs.lemmas.List.Elements.{All-append, All-cons, All-nil}
use Rattle.gd_words.specs.Spelling.{name_of}
use Rattle.name_table.specs.Entries.{Named}
use Rattle.deck_lines.specs.EventSayingOf.{event_said}
use Rattle.deck_reader.specs.LineFaults.{asks, disc_of, is_new, outline_with, terminal_of}
use Rattle.deck_lines.specs.Lines.{words_of, is_blank, is_printable, one_word, two_words, three_words, four_words}
use Rattle.deck_lines.specs.Numbers.{are_digits, as_negative, as_positive, digits_value, small_of, word_of}
use Rattle.deck_lines.specs.Numbers.{written_number}
use Rattle.deck_reader.specs.Outlined.{asked, at_end, breach_at, disc_told, ended, in_blocks, in_program, in_requests}
use Rattle.deck_reader.specs.Outlined.{in_schedule, led_on, next_stage, opening, program_ended, site_told}
use Rattle.deck_reader.specs.Outlined.{terminal_told, told_after, outline_of, with_terminal}
use Rattle.deck_lines.specs.SayingOf.{are_words, is_remark, keyword_of, or_formless, or_long, parts_say, placing_of}
use Rattle.deck_lines.specs.SayingOf.{request_of, request_words, said_by, saying_of, terminal_said}
use Rattle.deck_lines.specs.declared.event_saying.EventSaying.{EventSaying}
use Rattle.deck_reader.specs.declared.line_fault.LineFault.{LineFault}
use Rattle.deck_reader.specs.declared.line_fault.LineFault.TheVariants as fault
use Rattle.deck_reader.specs.declared.outline.Heading.{Heading}
use Rattle.deck_reader.specs.declared.outline.Outline.{Outline}
use Rattle.deck_reader.specs.declared.outline.ProcessLines.{ProcessLines}
use Rattle.deck_reader.specs.declared.outline.ProgramLines.{ProgramLines}
use Rattle.deck_reader.specs.declared.outline.Sums.{Sums}
use Rattle.deck_reader.specs.declared.outline.TerminalLines.{TerminalLines}
use Rattle.deck_lines.specs.declared.saying.Keyword.{Keyword}
use Rattle.deck_lines.specs.declared.saying.Keyword.TheVariants as key
use Rattle.deck_lines.specs.declared.saying.Saying.{Saying}
use Rattle.deck_lines.specs.declared.saying.Saying.TheVariants as said
use Rattle.deck_reader.specs.declared.step.Stage.{Stage}
use Rattle.deck_reader.specs.declared.step.Stage.TheVariants as at
use Rattle.deck_reader.specs.declared.step.LineOutcome.{LineOutcome}
use Rattle.deck_reader.specs.declared.step.LineOutcome.TheVariants as step
use Rattle.deck_reader.specs.declared.told.Told.{Told}
use Rattle.deck_reader.specs.declared.told.Told.TheVariants as told
use Rattle.shown_forms.proofs.Lists.{IfWord}
use Rattle.shown_forms.specs.told_reports.specs.Words.{AreWords}
use Rattle.tal_tree.specs.declared.limit.DeckLimit.TheVariants as deck_limit

-- words of 16 bits
abbrev pub IsWordy : List ℤ → Type 0
IsWordy request = AreWords request

abbrev pub HasWordy : Named TerminalLines → Type 0
HasWordy terminal = All IsWordy terminal.1.requests

abbrev pub HaveWordy : Outline → Type 0
HaveWordy outline = All HasWordy outline.terminals

-- what a line says
abbrev SayingWordy : Saying → Type 0
SayingWordy (said.Send words) = IsWordy words
SayingWordy _ = Unit {0}

abbrev SaidWordy : Option Saying → Type 0
SaidWordy None = Unit {0}
SaidWordy (Some saying) = SayingWordy saying

wordy_then : {X : Type 0} (f : X → Option Saying) → ((x : X) → SaidWordy (f x)) → (o : Option X)
    → SaidWordy (option_and_then f o)
wordy_then f h None = tt
wordy_then f h (Some x) = h x

wordy_map : {X : Type 0} (f : X → Saying) → ((x : X) → SayingWordy (f x)) → (o : Option X) → SaidWordy (option_map f o)
wordy_map f h None = tt
wordy_map f h (Some x) = h x

wordy_if : (b : Bool) (saying : Saying) → SayingWordy saying → SaidWordy (cond b (Some saying) None)
wordy_if true saying h = h
wordy_if false saying h = tt

-- what words spell
abbrev IfWords : Option (List ℤ) → Type 0
IfWords None = Unit {0}
IfWords (Some words) = AreWords words

abbrev IsSmall : ℕ → Option ℕ → Type 0
IsSmall most None = Unit {0}
IsSmall most (Some n) = n ≤ most

small : (most : ℕ) (word : List ℕ) → IsSmall most (small_of most word)
small most word = by (are_digits 5 word) (nat_le (digits_value word) most) refl
  where
    by : (a b : Bool) → nat_le (digits_value word) most ≡ b
        → IsSmall most (cond (a && b) (Some (digits_value word)) None)
    by true true e = leb-true (digits_value word) most e
    by true false e = tt
    by false b e = tt

positive_word : (o : Option ℕ) → IsSmall 32767 o → IfWord (as_positive o)
positive_word None is = tt
positive_word (Some n) is = is

negative_word : (o : Option ℕ) → IsSmall 32768 o → IfWord (as_negative o)
negative_word None is = tt
negative_word (Some zero) is = omega arith
negative_word (Some (suc n)) is = omega (arith, is)

word_is : (word : List ℕ) → IfWord (word_of word)
word_is [] = tt
word_is (c ∷ cs) = by (c == 45)
  where
    by : (b : Bool) → IfWord (cond b (as_negative (small_of 32768 cs)) (as_positive (small_of 32767 (c ∷ cs))))
    by true = negative_word (small_of 32768 cs) (small 32768 cs)
    by false = positive_word (small_of 32767 (c ∷ cs)) (small 32767 (c ∷ cs))

one_more : (value : Option ℤ) (o : Option (List ℤ)) → IfWord value → IfWords o
    → IfWords (option_and_then (λ value. option_map (λ values. value ∷ values) o) value)
one_more None o one all = tt
one_more (Some value) None one all = tt
one_more (Some value) (Some words) one all = (one, all)

all_words : (parts : List (List ℕ)) → IfWords (request_words parts)
all_words [] = tt
all_words (part ∷ parts) = one_more (word_of part) (request_words parts) (word_is part) (all_words parts)

request_wordy : (parts : List (List ℕ)) → SayingWordy (or_long (request_of parts))
request_wordy parts = by (nat_le (length parts) 16)
  where
    read : (o : Option (List ℤ)) → IfWords o → SayingWordy (or_long o)
    read None are = tt
    read (Some words) are = are

    by : (b : Bool) → SayingWordy (or_long (cond b (request_words parts) None))
    by true = read (request_words parts) (all_words parts)
    by false = tt

terminal_wordy : (parts : List (List ℕ)) (o : _) → two_words parts ≡ o → SaidWordy (terminal_said parts)
terminal_wordy parts None e = rw e tt
terminal_wordy parts (Some words) e = by (name_of words.0) (name_of words.1) refl refl
  where
    by : (name target : Option (List ℕ)) → name_of words.0 ≡ name → name_of words.1 ≡ target
        → SaidWordy (terminal_said parts)
    by None target p q = rw (e, p) tt
    by (Some name) None p q = rw (e, p, q) tt
    by (Some name) (Some target) p q = rw (e, p, q) tt

parts_wordy : (parts : List (List ℕ)) (word : Keyword) → SaidWordy (parts_say parts word)
parts_wordy parts key.Processors =
    wordy_then _ (λ word. wordy_map said.Processors (λ count. tt) (written_number word)) (one_word parts)
parts_wordy parts (key.Disc mirrored) =
    wordy_then _ (λ words. wordy_then _ (λ placing.
    wordy_map (λ sectors. said.Disc placing sectors mirrored) (λ sectors. tt) (written_number words.3))
    (placing_of words.0 words.1 words.2))
    (four_words parts)
parts_wordy parts key.Pair =
    wordy_then _ (λ words. wordy_map said.Pair (λ placing. tt) (placing_of words.0 words.1 words.2)) (three_words parts)
parts_wordy parts key.Terminal = terminal_wordy parts (two_words parts) refl
parts_wordy parts key.Send = wordy_if (are_words parts) (or_long (request_of parts)) (request_wordy parts)
parts_wordy parts key.Schedule = wordy_if (is_blank parts) said.Schedule tt
parts_wordy parts (key.Event word) = wordy_map said.Event (λ saying. tt) (event_said parts word)
parts_wordy parts key.End = wordy_if (is_blank parts) said.End tt

said_wordy : (words : List (List ℕ)) → SaidWordy (said_by words)
said_wordy [] = tt
said_wordy (word ∷ parts) = by (is_remark word)
  where
    by : (b : Bool) → SaidWordy (cond b (Some said.Nothing) (option_and_then (parts_say parts) (keyword_of word)))
    by true = tt
    by false = wordy_then (parts_say parts) (parts_wordy parts) (keyword_of word)

saying_wordy : (line : List ℕ) → SayingWordy (saying_of line)
saying_wordy line = by (is_printable line)
  where
    formed : (o : Option Saying) → SaidWordy o → SayingWordy (or_formless o)
    formed None h = tt
    formed (Some saying) h = h

    by : (b : Bool) → SayingWordy (cond b (or_formless (said_by (words_of line))) said.Formless)
    by true = formed (said_by (words_of line)) (said_wordy (words_of line))
    by false = tt

-- what is told up to a stage
abbrev StageWordy : Stage → Type 0
StageWordy at.Opening = Unit {0}
StageWordy (at.Blocks outline) = HaveWordy outline
StageWordy (at.Program outline heading program) = HaveWordy outline
StageWordy (at.Requests outline name terminal) = HaveWordy outline × HasWordy (name, terminal)
StageWordy (at.Schedule outline) = HaveWordy outline
StageWordy (at.Ended outline) = HaveWordy outline

abbrev StepWordy : LineOutcome → Type 0
StepWordy (step.Next stage) = StageWordy stage
StepWordy (step.Broken breach) = Unit {0}

all_more : {X : Type 0} (P : X → Type 0) (xs : List X) (x : X) → All P xs → P x → All P (xs ++ x ∷ [])
all_more P xs x all one = All-append P xs (x ∷ []) all (All-cons P x [] one (All-nil P))

disc_wordy : (outline : Outline) (number : ℕ) (o : Result (Named ProcessLines) LineFault) → HaveWordy outline
    → StepWordy (disc_told outline number o)
disc_wordy outline number (Err why) wordy = tt
disc_wordy outline number (Ok process) wordy = wordy

terminal_begins : (outline : Outline) (number : ℕ) (name target : List ℕ) → HaveWordy outline
    → StepWordy (terminal_told outline number name (terminal_of outline number name target))
terminal_begins outline number name target wordy = by (not (is_new outline name)) (nat_le 16 (length outline.terminals))
  where
    by : (a b : Bool)
        → StepWordy (terminal_told outline number name
        (cond a (Err fault.NameTwice) (cond b (Err (fault.Limit deck_limit.Terminals))
        (Ok (record { line = number; target = target; requests = [] })))))
    by true b = tt
    by false true = tt
    by false false = (wordy, All-nil IsWordy)

blocks_wordy : (outline : Outline) (number : ℕ) (saying : Saying) → HaveWordy outline
    → StepWordy (in_blocks outline number saying)
blocks_wordy outline number said.Nothing wordy = wordy
blocks_wordy outline number (said.Disc placing sectors mirrored) wordy =
    disc_wordy outline number (disc_of outline placing sectors mirrored) wordy
blocks_wordy outline number (said.Pair placing) wordy = wordy
blocks_wordy outline number (said.Terminal name target) wordy = terminal_begins outline number name target wordy
blocks_wordy outline number said.Schedule wordy = wordy
blocks_wordy outline number _ wordy = tt

requests_wordy : (outline : Outline) (name : List ℕ) (terminal : TerminalLines) (number : ℕ) (saying : Saying)
    → SayingWordy saying → HaveWordy outline → HasWordy (name, terminal)
    → StepWordy (in_requests outline name terminal number saying)
requests_wordy outline name terminal number said.Nothing one wordy own = (wordy, own)
requests_wordy outline name terminal number (said.Send words) one wordy own =
    by (nat_le 1000 (length terminal.requests))
  where
    by : (b : Bool)
        → StepWordy (cond b (step.Broken (breach_at outline number (fault.Limit deck_limit.Requests)))
        (step.Next (at.Requests outline name (record terminal { requests = terminal.requests ++ words ∷ [] }))))
    by true = tt
    by false = (wordy, all_more IsWordy terminal.requests words own one)
requests_wordy outline name terminal number said.LongSend one wordy own = by (nat_le 1000 (length terminal.requests))
  where
    by : (b : Bool) → StepWordy (cond b (step.Broken (breach_at outline number (fault.Limit deck_limit.Requests)))
        (step.Broken (breach_at outline number (fault.Limit deck_limit.RequestWords))))
    by true = tt
    by false = tt
requests_wordy outline name terminal number (said.Disc placing sectors mirrored) one wordy own =
    blocks_wordy (with_terminal outline name terminal) number (said.Disc placing sectors mirrored)
    (all_more HasWordy outline.terminals (name, terminal) wordy own)
requests_wordy outline name terminal number (said.Pair placing) one wordy own =
    blocks_wordy (with_terminal outline name terminal) number (said.Pair placing)
    (all_more HasWordy outline.terminals (name, terminal) wordy own)
requests_wordy outline name terminal number (said.Terminal other target) one wordy own =
    blocks_wordy (with_terminal outline name terminal) number (said.Terminal other target)
    (all_more HasWordy outline.terminals (name, terminal) wordy own)
requests_wordy outline name terminal number said.Schedule one wordy own =
    blocks_wordy (with_terminal outline name terminal) number said.Schedule
    (all_more HasWordy outline.terminals (name, terminal) wordy own)
requests_wordy outline name terminal number _ one wordy own = tt

opening_wordy : (number : ℕ) (saying : Saying) → StepWordy (opening number saying)
opening_wordy number said.Nothing = tt
opening_wordy number (said.Processors count) = by (nat_lt count 2) (nat_lt 16 count)
  where
    by : (a b : Bool) → StepWordy (site_told number
        (cond a (Err (fault.Limit deck_limit.Processors)) (cond b (Err (fault.Limit deck_limit.Processors))
        (Ok (outline_with count)))))
    by true b = tt
    by false true = tt
    by false false = All-nil HasWordy
opening_wordy number _ = tt

event_wordy : (outline : Outline) (number : ℕ) (saying : EventSaying) (o : Result Sums LineFault) → HaveWordy outline
    → StepWordy (asked outline number saying o)
event_wordy outline number saying (Err why) wordy = tt
event_wordy outline number saying (Ok sums) wordy = wordy

schedule_wordy : (outline : Outline) (number : ℕ) (saying : Saying) → HaveWordy outline
    → StepWordy (in_schedule outline number saying)
schedule_wordy outline number said.Nothing wordy = wordy
schedule_wordy outline number said.End wordy = wordy
schedule_wordy outline number (said.Event saying) wordy =
    event_wordy outline number saying (asks outline.processors outline.events.sums saying) wordy
schedule_wordy outline number _ wordy = tt

ended_wordy : (outline : Outline) (number : ℕ) (saying : Saying) → HaveWordy outline
    → StepWordy (ended outline number saying)
ended_wordy outline number said.Nothing wordy = wordy
ended_wordy outline number _ wordy = tt

program_wordy : (outline : Outline) (heading : Result Heading LineFault) (program : ProgramLines) (line : List ℕ)
    → HaveWordy outline
    → StepWordy (in_program outline heading program line)
program_wordy outline heading program line wordy = by (bytes_eq line (codes "."))
  where
    at_point : (o : Result Heading LineFault) → StepWordy (program_ended outline o program)
    at_point (Err why) = tt
    at_point (Ok told) = wordy

    by : (b : Bool) → StepWordy (cond b (program_ended outline heading program)
        (step.Next (at.Program outline heading (record program { text = program.text ++ line ++ 10 ∷ [] }))))
    by true = at_point heading
    by false = wordy

next_wordy : (stage : Stage) (number : ℕ) (line : List ℕ) → StageWordy stage → StepWordy (next_stage stage number line)
next_wordy at.Opening number line wordy = opening_wordy number (saying_of line)
next_wordy (at.Blocks outline) number line wordy = blocks_wordy outline number (saying_of line) wordy
next_wordy (at.Program outline heading program) number line wordy = program_wordy outline heading program line wordy
next_wordy (at.Requests outline name terminal) number line wordy =
    requests_wordy outline name terminal number (saying_of line) (saying_wordy line) wordy.0 wordy.1
next_wordy (at.Schedule outline) number line wordy = schedule_wordy outline number (saying_of line) wordy
next_wordy (at.Ended outline) number line wordy = ended_wordy outline number (saying_of line) wordy

abbrev ToldWordy : Told → Type 0
ToldWordy (told.Whole outline) = HaveWordy outline
ToldWordy (told.Broken breach) = Unit {0}

end_wordy : (stage : Stage) (count : ℕ) → StageWordy stage → ToldWordy (at_end stage count)
end_wordy at.Opening count wordy = tt
end_wordy (at.Blocks outline) count wordy = tt
end_wordy (at.Program outline (Err why) program) count wordy = tt
end_wordy (at.Program outline (Ok heading) program) count wordy = tt
end_wordy (at.Requests outline name terminal) count wordy = tt
end_wordy (at.Schedule outline) count wordy = tt
end_wordy (at.Ended outline) count wordy = wordy

lines_wordy : (stage : Stage) (count : ℕ) (lines : List (List ℕ)) → StageWordy stage
    → ToldWordy (told_after stage count lines)
lines_wordy stage count [] wordy = end_wordy stage count wordy
lines_wordy stage count (line ∷ lines) wordy =
    by (λ next. lines_wordy next (count + 1) lines) (next_stage stage (count + 1) line)
    (next_wordy stage (count + 1) line wordy)
  where
    by : ((next : Stage) → StageWordy next → ToldWordy (told_after next (count + 1) lines)) → (one : LineOutcome)
        → StepWordy one
        → ToldWordy (led_on (λ next. told_after next (count + 1) lines) one)
    by later (step.Next next) h = later next h
    by later (step.Broken breach) h = tt

-- the requests of an outline are words
pub outline_wordy : (lines : List (List ℕ)) (outline : Outline) → outline_of lines ≡ told.Whole outline
    → HaveWordy outline
outline_wordy lines outline e = subst ToldWordy e (lines_wordy at.Opening 0 lines tt)

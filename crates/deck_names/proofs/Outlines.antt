-- The names of an outline's processes stand once each, and so do those of its terminals; they are spelled as names.
use Rattle.std.proofs.Common.{◌≡◌, ℕ, ◌+◌, zero, suc, Bool, true, false, not, cond, nat_eq, nat_le, nat_lt, List, []}
use Rattle.std.proofs.Common.{◌∷◌, ◌++◌, length, slice_get, Option, Some, None, Result, Ok, Err, option_map}
use Rattle.std.proofs.Common.{option_and_then, refl, sym, ap, ◌∙◌, subst, ◌⊎◌, inl, inr}
use Rattle.std.specs.Prelude.{codes}
use Rattle.std.specs.Str.{bytes_eq}
use Rattle.std.proofs.lemmas.Bool.{or_parts, true≢false}
use Rattle.std.proofs.lemmas.Slice.Eq.{bytes_eq-Decides}
use Rattle.gd_words.specs.Spelling.{is_name, name_of}
use Rattle.name_table.specs.Entries.{Named, has_name}
use Rattle.tal_faultless.proofs.Common.Entries.{get_either}
use Rattle.deck_lines.specs.EventSayingOf.{event_said}
use Rattle.deck_lines.specs.Lines.{words_of, is_blank, is_printable, one_word, two_words, three_words, four_words}
use Rattle.deck_lines.specs.Numbers.{written_number}
use Rattle.deck_lines.specs.SayingOf.{are_words, is_remark, keyword_of, or_formless, or_long, parts_say, placing_of}
use Rattle.deck_lines.specs.SayingOf.{request_of, said_by, saying_of, terminal_said}
use Rattle.deck_lines.specs.declared.event_saying.EventSaying.{EventSaying}
use Rattle.deck_lines.specs.declared.saying.Keyword.{Keyword}
use Rattle.deck_lines.specs.declared.saying.Keyword.TheVariants as key
use Rattle.deck_lines.specs.declared.saying.Placing.{Placing}
use Rattle.deck_lines.specs.declared.saying.Saying.{Saying}
use Rattle.deck_lines.specs.declared.saying.Saying.TheVariants as said
use Rattle.deck_reader.proofs.FreshLemmas.{new_names}
use Rattle.deck_reader.specs.LineFaults.{asks, heading_of, is_new, outline_with, process_with, terminal_of}
use Rattle.deck_reader.specs.LineFaults.{with_sectors}
use Rattle.deck_reader.specs.Outlined.{asked, at_end, breach_at, disc_told, ended, in_blocks, in_program, in_requests}
use Rattle.deck_reader.specs.Outlined.{in_schedule, led_on, next_stage, opening, outline_of, program_ended, site_told}
use Rattle.deck_reader.specs.Outlined.{terminal_told, told_after, with_process, with_terminal}
use Rattle.deck_reader.specs.declared.line_fault.LineFault.{LineFault}
use Rattle.deck_reader.specs.declared.line_fault.LineFault.TheVariants as fault
use Rattle.deck_reader.specs.declared.outline.Body.{Body}
use Rattle.deck_reader.specs.declared.outline.Body.TheVariants as body
use Rattle.deck_reader.specs.declared.outline.Heading.{Heading}
use Rattle.deck_reader.specs.declared.outline.Outline.{Outline}
use Rattle.deck_reader.specs.declared.outline.ProgramLines.{ProgramLines}
use Rattle.deck_reader.specs.declared.outline.Sums.{Sums}
use Rattle.deck_reader.specs.declared.outline.TerminalLines.{TerminalLines}
use Rattle.deck_reader.specs.declared.step.LineOutcome.{LineOutcome}
use Rattle.deck_reader.specs.declared.step.LineOutcome.TheVariants as step
use Rattle.deck_reader.specs.declared.step.Stage.{Stage}
use Rattle.deck_reader.specs.declared.step.Stage.TheVariants as at
use Rattle.deck_reader.specs.declared.told.Told.{Told}
use Rattle.deck_reader.specs.declared.told.Told.TheVariants as told
use Rattle.deck_names.proofs.Places.{AreOnce, once-more, once-none}
use Rattle.deck_names.proofs.Signs.{name-kept}
use Rattle.tal_tree.specs.declared.limit.DeckLimit.TheVariants as deck_limit

abbrev pub entry_name : {T : Type 0} → Named T → List ℕ
entry_name entry = entry.0

-- each name stands once, and is spelled as one
abbrev pub AreNames : {T : Type 0} → List (Named T) → Type 0
AreNames {T = T} entries =
    AreOnce (λ (entry : Named T). entry_name entry) entries
    × ((k : ℕ) (entry : Named T) → slice_get entries k ≡ Some entry → is_name (entry_name entry) ≡ true)

names-none : {T : Type 0} → AreNames {T = T} []
names-none {T} = (once-none (λ (entry : Named T). entry_name entry), λ k entry there. absurd (cc there))

-- a name that none has
unnamed : {T : Type 0} (name : List ℕ) (entries : List (Named T)) (k : ℕ) (entry : Named T)
    → has_name entries name ≡ false → slice_get entries k ≡ Some entry → entry_name entry ≡ name → ⊥
unnamed name [] k entry none there is = absurd (cc there)
unnamed name (x ∷ entries) zero entry none there is =
    let one : x ≡ entry = cc there in
    let equal : bytes_eq (entry_name x) name ≡ true =
    (bytes_eq-Decides (entry_name x) name).1 (ap entry_name one ∙ is) in
    true≢false (sym equal ∙ (or_parts (bytes_eq (entry_name x) name) (has_name entries name) none).0)
unnamed name (x ∷ entries) (suc k) entry none there is =
    unnamed name entries k entry (or_parts (bytes_eq (entry_name x) name) (has_name entries name) none).1 there is

names-more : {T : Type 0} (entries : List (Named T)) (one : Named T) → AreNames entries
    → has_name entries (entry_name one) ≡ false → is_name (entry_name one) ≡ true → AreNames (entries ++ one ∷ [])
names-more {T} entries one are none spelled = (
  once-more (λ (entry : Named T). entry_name entry) entries one
      (λ k entry there is. unnamed (entry_name one) entries k entry none there is) are.0,
  λ k entry there. by k entry (get_either entries one entry k there),
)
  where
    by : (k : ℕ) (entry : Named T) → (slice_get entries k ≡ Some entry) ⊎ ((k ≡ length entries) × (one ≡ entry))
        → is_name (entry_name entry) ≡ true
    by k entry (inl e) = are.1 k entry e
    by k entry (inr e) = subst (λ (x : Named T). is_name (entry_name x) ≡ true) e.1 spelled

-- what a line says
abbrev SayingNames : Saying → Type 0
SayingNames (said.Disc placing sectors mirrored) = is_name placing.name ≡ true
SayingNames (said.Pair placing) = is_name placing.name ≡ true
SayingNames (said.Terminal name target) = is_name name ≡ true
SayingNames _ = Unit {0}

abbrev SaidNames : Option Saying → Type 0
SaidNames None = Unit {0}
SaidNames (Some saying) = SayingNames saying

names-then : {X : Type 0} (f : X → Option Saying) → ((x : X) → SaidNames (f x)) → (o : Option X)
    → SaidNames (option_and_then f o)
names-then f h None = tt
names-then f h (Some x) = h x

names-map : {X : Type 0} (f : X → Saying) → ((x : X) → SayingNames (f x)) → (o : Option X) → SaidNames (option_map f o)
names-map f h None = tt
names-map f h (Some x) = h x

names-if : (b : Bool) (saying : Saying) → SayingNames saying → SaidNames (cond b (Some saying) None)
names-if true saying h = h
names-if false saying h = tt

long-names : (o : Option _) → SayingNames (or_long o)
long-names None = tt
long-names (Some words) = tt

-- a placing has a name
abbrev PlacingNames : Option Placing → Type 0
PlacingNames None = Unit {0}
PlacingNames (Some placing) = is_name placing.name ≡ true

placing-names : (name primary backup : List ℕ) → PlacingNames (placing_of name primary backup)
placing-names name primary backup = by (name_of name) (written_number primary) (written_number backup) refl refl refl
  where
    by : (n : Option (List ℕ)) (p b : Option ℕ) → name_of name ≡ n → written_number primary ≡ p
        → written_number backup ≡ b → PlacingNames (placing_of name primary backup)
    by None p b e f h = rw (e) tt
    by (Some n) None b e f h = rw (e, f) tt
    by (Some n) (Some p) None e f h = rw (e, f, h) tt
    by (Some n) (Some p) (Some b) e f h = rw (e, f, h) (name-kept name n e)

with-placing : {X : Type 0} (f : Placing → X → Saying)
    → ((placing : Placing) (x : X) → is_name placing.name ≡ true → SayingNames (f placing x))
    → (number : Option X) (o : Option Placing) → PlacingNames o
    → SaidNames (option_and_then (λ placing. option_map (f placing) number) o)
with-placing f h number None names = tt
with-placing f h None (Some placing) names = tt
with-placing f h (Some x) (Some placing) names = h placing x names

pair-placing : (o : Option Placing) → PlacingNames o → SaidNames (option_map said.Pair o)
pair-placing None names = tt
pair-placing (Some placing) names = names

terminal-names : (parts : List (List ℕ)) (o : _) → two_words parts ≡ o → SaidNames (terminal_said parts)
terminal-names parts None e = rw e tt
terminal-names parts (Some words) e = by (name_of words.0) (name_of words.1) refl refl
  where
    by : (name target : Option (List ℕ)) → name_of words.0 ≡ name → name_of words.1 ≡ target
        → SaidNames (terminal_said parts)
    by None target p q = rw (e, p) tt
    by (Some name) None p q = rw (e, p, q) tt
    by (Some name) (Some target) p q = rw (e, p, q) (name-kept words.0 name p)

parts-names : (parts : List (List ℕ)) (word : Keyword) → SaidNames (parts_say parts word)
parts-names parts key.Processors =
    names-then _ (λ word. names-map said.Processors (λ count. tt) (written_number word)) (one_word parts)
parts-names parts (key.Disc mirrored) =
    names-then _ (λ words. with-placing (λ placing sectors. said.Disc placing sectors mirrored)
    (λ placing sectors is. is) (written_number words.3)
    (placing_of words.0 words.1 words.2) (placing-names words.0 words.1 words.2))
    (four_words parts)
parts-names parts key.Pair =
    names-then _ (λ words. pair-placing (placing_of words.0 words.1 words.2) (placing-names words.0 words.1 words.2))
    (three_words parts)
parts-names parts key.Terminal = terminal-names parts (two_words parts) refl
parts-names parts key.Send = names-if (are_words parts) (or_long (request_of parts)) (long-names (request_of parts))
parts-names parts key.Schedule = names-if (is_blank parts) said.Schedule tt
parts-names parts (key.Event word) = names-map said.Event (λ saying. tt) (event_said parts word)
parts-names parts key.End = names-if (is_blank parts) said.End tt

said-names : (words : List (List ℕ)) → SaidNames (said_by words)
said-names [] = tt
said-names (word ∷ parts) = by (is_remark word)
  where
    by : (b : Bool) → SaidNames (cond b (Some said.Nothing) (option_and_then (parts_say parts) (keyword_of word)))
    by true = tt
    by false = names-then (parts_say parts) (parts-names parts) (keyword_of word)

saying-names : (line : List ℕ) → SayingNames (saying_of line)
saying-names line = by (is_printable line)
  where
    formed : (o : Option Saying) → SaidNames o → SayingNames (or_formless o)
    formed None h = tt
    formed (Some saying) h = h

    by : (b : Bool) → SayingNames (cond b (or_formless (said_by (words_of line))) said.Formless)
    by true = formed (said_by (words_of line)) (said-names (words_of line))
    by false = tt

-- what is told up to a stage
abbrev pub HaveNames : Outline → Type 0
HaveNames outline = AreNames outline.processes × AreNames outline.terminals

abbrev IsNew : {T : Type 0} → List (Named T) → List ℕ → Type 0
IsNew entries name = (has_name entries name ≡ false) × (is_name name ≡ true)

abbrev HeadingNew : Outline → Result Heading LineFault → Type 0
HeadingNew outline (Err why) = Unit {0}
HeadingNew outline (Ok heading) = IsNew outline.processes heading.name

abbrev StageNames : Stage → Type 0
StageNames at.Opening = Unit {0}
StageNames (at.Blocks outline) = HaveNames outline
StageNames (at.Program outline heading program) = HaveNames outline × HeadingNew outline heading
StageNames (at.Requests outline name terminal) = HaveNames outline × IsNew outline.terminals name
StageNames (at.Schedule outline) = HaveNames outline
StageNames (at.Ended outline) = HaveNames outline

abbrev StepNames : LineOutcome → Type 0
StepNames (step.Next stage) = StageNames stage
StepNames (step.Broken breach) = Unit {0}

process-more : (outline : Outline) (heading : Heading) (what : Body) → HaveNames outline
    → IsNew outline.processes heading.name → HaveNames (with_process outline (process_with heading what))
process-more outline heading what have new =
    (names-more outline.processes (process_with heading what) have.0 new.0 new.1, have.1)

terminal-more : (outline : Outline) (name : List ℕ) (terminal : TerminalLines) → HaveNames outline
    → IsNew outline.terminals name → HaveNames (with_terminal outline name terminal)
terminal-more outline name terminal have new =
    (have.0, names-more outline.terminals (name, terminal) have.1 new.0 new.1)

heading-names : (outline : Outline) (placing : Placing) → is_name placing.name ≡ true
    → HeadingNew outline (heading_of outline placing)
heading-names outline placing spelled =
    by (not (is_new outline placing.name)) (nat_eq placing.primary placing.backup)
    (nat_le outline.processors placing.primary) (nat_le outline.processors placing.backup)
    (nat_le 16 (length outline.processes)) refl
  where
    by : (a b c d e : Bool) → not (is_new outline placing.name) ≡ a
        → HeadingNew outline (cond a (Err fault.NameTwice)
        (cond b (Err fault.SameProcessor) (cond c (Err fault.NoProcessor) (cond d (Err fault.NoProcessor)
        (cond e (Err (fault.Limit deck_limit.Processes)) (Ok (record
        { name = placing.name; primary = placing.primary; backup = placing.backup })))))))
    by true b c d e p = tt
    by false true c d e p = tt
    by false false true d e p = tt
    by false false false true e p = tt
    by false false false false true p = tt
    by false false false false false p = ((new_names outline placing.name p).0, spelled)

disc-names : (outline : Outline) (number sectors : ℕ) (mirrored : Bool) (o : Result Heading LineFault)
    → HaveNames outline → HeadingNew outline o
    → StepNames (disc_told outline number (with_sectors sectors mirrored o))
disc-names outline number sectors mirrored (Err why) have new = tt
disc-names outline number sectors mirrored (Ok heading) have new = by (nat_lt sectors 1) (nat_lt 64 sectors)
  where
    by : (a b : Bool) → StepNames (disc_told outline number
        (cond a (Err (fault.Limit deck_limit.Sectors)) (cond b (Err (fault.Limit deck_limit.Sectors))
        (Ok (process_with heading (body.Disc sectors mirrored))))))
    by true b = tt
    by false true = tt
    by false false = process-more outline heading (body.Disc sectors mirrored) have new

terminal-begins : (outline : Outline) (number : ℕ) (name target : List ℕ) → is_name name ≡ true → HaveNames outline
    → StepNames (terminal_told outline number name (terminal_of outline number name target))
terminal-begins outline number name target spelled have =
    by (not (is_new outline name)) (nat_le 16 (length outline.terminals)) refl
  where
    by : (a b : Bool) → not (is_new outline name) ≡ a
        → StepNames (terminal_told outline number name
        (cond a (Err fault.NameTwice) (cond b (Err (fault.Limit deck_limit.Terminals))
        (Ok (record { line = number; target = target; requests = [] })))))
    by true b e = tt
    by false true e = tt
    by false false e = (have, ((new_names outline name e).1, spelled))

blocks-names : (outline : Outline) (number : ℕ) (saying : Saying) → SayingNames saying → HaveNames outline
    → StepNames (in_blocks outline number saying)
blocks-names outline number said.Nothing spelled have = have
blocks-names outline number (said.Disc placing sectors mirrored) spelled have =
    disc-names outline number sectors mirrored (heading_of outline placing) have
    (heading-names outline placing spelled)
blocks-names outline number (said.Pair placing) spelled have = (have, heading-names outline placing spelled)
blocks-names outline number (said.Terminal name target) spelled have =
    terminal-begins outline number name target spelled have
blocks-names outline number said.Schedule spelled have = have
blocks-names outline number _ spelled have = tt

requests-names : (outline : Outline) (name : List ℕ) (terminal : TerminalLines) (number : ℕ) (saying : Saying)
    → SayingNames saying → HaveNames outline → IsNew outline.terminals name
    → StepNames (in_requests outline name terminal number saying)
requests-names outline name terminal number said.Nothing spelled have new = (have, new)
requests-names outline name terminal number (said.Send words) spelled have new =
    by (nat_le 1000 (length terminal.requests))
  where
    by : (b : Bool)
        → StepNames (cond b (step.Broken (breach_at outline number (fault.Limit deck_limit.Requests)))
        (step.Next (at.Requests outline name (record terminal { requests = terminal.requests ++ words ∷ [] }))))
    by true = tt
    by false = (have, new)
requests-names outline name terminal number said.LongSend spelled have new =
    by (nat_le 1000 (length terminal.requests))
  where
    by : (b : Bool) → StepNames (cond b (step.Broken (breach_at outline number (fault.Limit deck_limit.Requests)))
        (step.Broken (breach_at outline number (fault.Limit deck_limit.RequestWords))))
    by true = tt
    by false = tt
requests-names outline name terminal number (said.Disc placing sectors mirrored) spelled have new =
    blocks-names (with_terminal outline name terminal) number (said.Disc placing sectors mirrored) spelled
    (terminal-more outline name terminal have new)
requests-names outline name terminal number (said.Pair placing) spelled have new =
    blocks-names (with_terminal outline name terminal) number (said.Pair placing) spelled
    (terminal-more outline name terminal have new)
requests-names outline name terminal number (said.Terminal other target) spelled have new =
    blocks-names (with_terminal outline name terminal) number (said.Terminal other target) spelled
    (terminal-more outline name terminal have new)
requests-names outline name terminal number said.Schedule spelled have new =
    blocks-names (with_terminal outline name terminal) number said.Schedule spelled
    (terminal-more outline name terminal have new)
requests-names outline name terminal number _ spelled have new = tt

opening-names : (number : ℕ) (saying : Saying) → StepNames (opening number saying)
opening-names number said.Nothing = tt
opening-names number (said.Processors count) = by (nat_lt count 2) (nat_lt 16 count)
  where
    by : (a b : Bool) → StepNames (site_told number
        (cond a (Err (fault.Limit deck_limit.Processors)) (cond b (Err (fault.Limit deck_limit.Processors))
        (Ok (outline_with count)))))
    by true b = tt
    by false true = tt
    by false false = (names-none, names-none)
opening-names number _ = tt

event-names : (outline : Outline) (number : ℕ) (saying : EventSaying) (o : Result Sums LineFault) → HaveNames outline
    → StepNames (asked outline number saying o)
event-names outline number saying (Err why) have = tt
event-names outline number saying (Ok sums) have = have

schedule-names : (outline : Outline) (number : ℕ) (saying : Saying) → HaveNames outline
    → StepNames (in_schedule outline number saying)
schedule-names outline number said.Nothing have = have
schedule-names outline number said.End have = have
schedule-names outline number (said.Event saying) have =
    event-names outline number saying (asks outline.processors outline.events.sums saying) have
schedule-names outline number _ have = tt

ended-names : (outline : Outline) (number : ℕ) (saying : Saying) → HaveNames outline
    → StepNames (ended outline number saying)
ended-names outline number said.Nothing have = have
ended-names outline number _ have = tt

program-names : (outline : Outline) (heading : Result Heading LineFault) (program : ProgramLines) (line : List ℕ)
    → HaveNames outline → HeadingNew outline heading → StepNames (in_program outline heading program line)
program-names outline heading program line have new = by (bytes_eq line (codes "."))
  where
    at_point : (o : Result Heading LineFault) → HeadingNew outline o → StepNames (program_ended outline o program)
    at_point (Err why) new = tt
    at_point (Ok told) new = process-more outline told (body.Pair program) have new

    by : (b : Bool) → StepNames (cond b (program_ended outline heading program)
        (step.Next (at.Program outline heading (record program { text = program.text ++ line ++ 10 ∷ [] }))))
    by true = at_point heading new
    by false = (have, new)

next-names : (stage : Stage) (number : ℕ) (line : List ℕ) → StageNames stage → StepNames (next_stage stage number line)
next-names at.Opening number line have = opening-names number (saying_of line)
next-names (at.Blocks outline) number line have =
    blocks-names outline number (saying_of line) (saying-names line) have
next-names (at.Program outline heading program) number line have =
    program-names outline heading program line have.0 have.1
next-names (at.Requests outline name terminal) number line have =
    requests-names outline name terminal number (saying_of line) (saying-names line) have.0 have.1
next-names (at.Schedule outline) number line have = schedule-names outline number (saying_of line) have
next-names (at.Ended outline) number line have = ended-names outline number (saying_of line) have

abbrev ToldNames : Told → Type 0
ToldNames (told.Whole outline) = HaveNames outline
ToldNames (told.Broken breach) = Unit {0}

end-names : (stage : Stage) (count : ℕ) → StageNames stage → ToldNames (at_end stage count)
end-names at.Opening count have = tt
end-names (at.Blocks outline) count have = tt
end-names (at.Program outline (Err why) program) count have = tt
end-names (at.Program outline (Ok heading) program) count have = tt
end-names (at.Requests outline name terminal) count have = tt
end-names (at.Schedule outline) count have = tt
end-names (at.Ended outline) count have = have

lines-names : (stage : Stage) (count : ℕ) (lines : List (List ℕ)) → StageNames stage
    → ToldNames (told_after stage count lines)
lines-names stage count [] have = end-names stage count have
lines-names stage count (line ∷ lines) have =
    by (λ next. lines-names next (count + 1) lines) (next_stage stage (count + 1) line)
    (next-names stage (count + 1) line have)
  where
    by : ((next : Stage) → StageNames next → ToldNames (told_after next (count + 1) lines)) → (one : LineOutcome)
        → StepNames one → ToldNames (led_on (λ next. told_after next (count + 1) lines) one)
    by later (step.Next next) h = later next h
    by later (step.Broken breach) h = tt

pub outline-names : (lines : List (List ℕ)) (outline : Outline) → outline_of lines ≡ told.Whole outline
    → HaveNames outline
outline-names lines outline e = subst ToldNames e (lines-names at.Opening 0 lines tt)

-- What a line of a deck outside a program says.
use Rattle.std.specs.Prelude.{ℕ, Bool, true, false, ◌==◌, nat_le, List, [], ◌∷◌, length, codes, Option, Some, None}
use Rattle.std.specs.Prelude.{option_map, option_and_then, is_some, if◌then◌else◌, ℤ}
use Rattle.std.specs.List.{list_all}
use Rattle.std.specs.Str.{bytes_eq}
use Rattle.gd_words.specs.declared.limits.TheConstants.{MOST_MESSAGE_WORDS}
use Rattle.gd_words.specs.Spelling.{name_of}
use Rattle.schedule.specs.declared.event.DriveChange.TheVariants.{Break, Revive, Copy}
use Rattle.deck_lines.specs.Lines.{words_of, is_blank, is_printable, one_word, two_words, three_words, four_words}
use Rattle.deck_lines.specs.Numbers.{written_number, word_of}
use Rattle.deck_lines.specs.EventSayingOf.{event_said}
use Rattle.deck_lines.specs.declared.event_saying.EventKeyword.{EventKeyword}
use Rattle.deck_lines.specs.declared.event_saying.EventKeyword.TheVariants as event
use Rattle.deck_lines.specs.declared.saying.Keyword.{Keyword}
use Rattle.deck_lines.specs.declared.saying.Keyword.TheVariants as key
use Rattle.deck_lines.specs.declared.saying.Placing.{Placing}
use Rattle.deck_lines.specs.declared.saying.Saying.{Saying}
use Rattle.deck_lines.specs.declared.saying.Saying.TheVariants as said

-- the word with which an event line begins
abbrev pub event_keyword_of : List ℕ → Option EventKeyword
event_keyword_of word =
    if bytes_eq word (codes "run") then Some event.Run
    else if bytes_eq word (codes "enter") then Some event.Enter
    else if bytes_eq word (codes "deliver") then Some event.Deliver
    else if bytes_eq word (codes "lose") then Some event.Lose
    else if bytes_eq word (codes "repeat") then Some event.Repeat
    else if bytes_eq word (codes "tick") then Some event.Tick
    else if bytes_eq word (codes "fail") then Some event.Fail
    else if bytes_eq word (codes "reload") then Some event.Reload
    else if bytes_eq word (codes "break") then Some (event.Drive Break)
    else if bytes_eq word (codes "revive") then Some (event.Drive Revive)
    else if bytes_eq word (codes "copy") then Some (event.Drive Copy)
    else if bytes_eq word (codes "drain") then Some event.Drain
    else if bytes_eq word (codes "mix") then Some event.Mix
    else if bytes_eq word (codes "mute") then Some event.Mute
    else if bytes_eq word (codes "until") then Some event.Until
    else None

-- the word with which a line begins
abbrev pub keyword_of : List ℕ → Option Keyword
keyword_of word =
    if bytes_eq word (codes "processors") then Some key.Processors
    else if bytes_eq word (codes "disc") then Some (key.Disc false)
    else if bytes_eq word (codes "mirror") then Some (key.Disc true)
    else if bytes_eq word (codes "pair") then Some key.Pair
    else if bytes_eq word (codes "terminal") then Some key.Terminal
    else if bytes_eq word (codes "send") then Some key.Send
    else if bytes_eq word (codes "schedule") then Some key.Schedule
    else if bytes_eq word (codes "END") then Some key.End
    else option_map key.Event (event_keyword_of word)

-- `processors N`
abbrev pub processors_said : List (List ℕ) → Option Saying
processors_said parts = option_and_then (λ word. option_map said.Processors (written_number word)) (one_word parts)

-- a process's name and the processors of its two copies
abbrev pub placing_of : List ℕ → List ℕ → List ℕ → Option Placing
placing_of name primary backup = placed (name_of name) (written_number primary) (written_number backup)
  where
    placed : Option (List ℕ) → Option ℕ → Option ℕ → Option Placing
    placed (Some name) (Some primary) (Some backup) = Some (record { name = name; primary = primary; backup = backup })
    placed _ _ _ = None

-- `disc NAME P B SECTORS` and `mirror NAME P B SECTORS`
abbrev pub disc_said : Bool → List (List ℕ) → Option Saying
disc_said mirrored parts =
    option_and_then (λ words. option_and_then
    (λ placing. option_map (λ sectors. said.Disc placing sectors mirrored) (written_number words.3))
    (placing_of words.0 words.1 words.2)) (four_words parts)

-- `pair NAME P B`
abbrev pub pair_said : List (List ℕ) → Option Saying
pair_said parts =
    option_and_then (λ words. option_map said.Pair (placing_of words.0 words.1 words.2)) (three_words parts)

-- `terminal NAME TARGET`
abbrev pub terminal_said : List (List ℕ) → Option Saying
terminal_said parts = option_and_then (λ words. terminal_of (name_of words.0) (name_of words.1)) (two_words parts)
  where
    terminal_of : Option (List ℕ) → Option (List ℕ) → Option Saying
    terminal_of (Some name) (Some target) = Some (said.Terminal name target)
    terminal_of _ _ = None

-- the words of a request, each of them a word
abbrev pub request_words : List (List ℕ) → Option (List ℤ)
request_words [] = Some []
request_words (word ∷ words) =
    option_and_then (λ value. option_map (λ values. value ∷ values) (request_words words)) (word_of word)

-- no more words than a request may have
abbrev pub request_of : List (List ℕ) → Option (List ℤ)
request_of parts = if nat_le (length parts) MOST_MESSAGE_WORDS then request_words parts else None

-- each of them is a word
abbrev pub are_words : List (List ℕ) → Bool
are_words parts = list_all (λ part. is_some (word_of part)) parts

abbrev pub or_long : Option (List ℤ) → Saying
or_long None = said.LongSend
or_long (Some words) = said.Send words

-- `send w1 .. wk`
abbrev pub send_said : List (List ℕ) → Option Saying
send_said parts = if are_words parts then Some (or_long (request_of parts)) else None

-- `schedule`
abbrev pub schedule_said : List (List ℕ) → Option Saying
schedule_said parts = if is_blank parts then Some said.Schedule else None

-- an event line
abbrev pub event_line_said : List (List ℕ) → EventKeyword → Option Saying
event_line_said parts word = option_map said.Event (event_said parts word)

-- `END`
abbrev pub end_said : List (List ℕ) → Option Saying
end_said parts = if is_blank parts then Some said.End else None

-- the parts of a line by its first word
abbrev pub parts_say : List (List ℕ) → Keyword → Option Saying
parts_say parts key.Processors = processors_said parts
parts_say parts (key.Disc mirrored) = disc_said mirrored parts
parts_say parts key.Pair = pair_said parts
parts_say parts key.Terminal = terminal_said parts
parts_say parts key.Send = send_said parts
parts_say parts key.Schedule = schedule_said parts
parts_say parts (key.Event word) = event_line_said parts word
parts_say parts key.End = end_said parts

-- a word that begins with `#`
abbrev pub is_remark : List ℕ → Bool
is_remark [] = false
is_remark (c ∷ cs) = c == 35

-- the words of a line; none and a remark say nothing
abbrev pub said_by : List (List ℕ) → Option Saying
said_by [] = Some said.Nothing
said_by (word ∷ parts) =
    if is_remark word then Some said.Nothing else option_and_then (parts_say parts) (keyword_of word)

abbrev pub or_formless : Option Saying → Saying
or_formless None = said.Formless
or_formless (Some saying) = saying

-- a line outside a program
abbrev pub saying_of : List ℕ → Saying
saying_of line = if is_printable line then or_formless (said_by (words_of line)) else said.Formless

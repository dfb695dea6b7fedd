-- What often lies behind a fault. Our own.
use Rattle.std.specs.Prelude.{ℕ, ◌-◌, Bool, false, not, ◌==◌, ◌||◌, ◌&&◌, List, [], ◌∷◌, codes, length, take, drop}
use Rattle.std.specs.Prelude.{Option, Some, None, slice_get, if◌then◌else◌}
use Rattle.std.specs.List.{list_any, position}
use Rattle.std.specs.Option.{unwrap_or}
use Rattle.std.specs.Str.{bytes_eq}
use Rattle.deck_lines.specs.Lines.{words_of}
use Rattle.gd_words.specs.Spelling.{ident_of, is_ident_sign}
use Rattle.fault_words.specs.declared.hint.Hint.{Hint}
use Rattle.fault_words.specs.declared.hint.Hint.TheVariants as hint
use Rattle.tal_tree.specs.declared.fault.DeckFault.{DeckFault}
use Rattle.tal_tree.specs.declared.fault.DeckFault.TheVariants as deck
use Rattle.tal_tree.specs.declared.fault.TalFault.{TalFault}
use Rattle.tal_tree.specs.declared.fault.TalFault.TheVariants as tal

abbrev pub has_sign : ℕ → List ℕ → Bool
has_sign sign text = list_any (λ c. c == sign) text

-- whether it is a word of a line behind which stands the name of a process or a terminal
abbrev pub comes_before_name : List ℕ → Bool
comes_before_name word =
    bytes_eq word (codes "disc") || bytes_eq word (codes "pair") || bytes_eq word (codes "terminal")
    || bytes_eq word (codes "run") || bytes_eq word (codes "enter")

abbrev pub begins_with_dollar : List ℕ → Bool
begins_with_dollar [] = false
begins_with_dollar (sign ∷ rest) = sign == 36

-- a line that begins so, and whose next word isn't a name for want of its `$`
abbrev pub next_lacks_dollar : List (List ℕ) → Bool
next_lacks_dollar [] = false
next_lacks_dollar (word ∷ rest) = not (begins_with_dollar word)

abbrev pub lacks_dollar : List (List ℕ) → Bool
lacks_dollar [] = false
lacks_dollar (word ∷ rest) = comes_before_name word && next_lacks_dollar rest

-- a line of no form: 13 is a carriage return, and 9 a tab
abbrev pub form_hint : List ℕ → Option Hint
form_hint line =
    if has_sign 13 line then Some hint.CarriageReturn
    else if has_sign 9 line then Some hint.Tab
    else if lacks_dollar (words_of line) then Some hint.NoDollar
    else None

-- a name or keyword in upper case, where the text begins with one of at most 31 signs
abbrev pub name_length : List ℕ → ℕ
name_length text = unwrap_or (position (λ c. not (is_ident_sign c)) text) (length text)

abbrev pub name_at : List ℕ → Option (List ℕ)
name_at text = ident_of (take (name_length text) text)

abbrev pub is_keyword_up_to_else : List ℕ → Bool
is_keyword_up_to_else word =
    bytes_eq word (codes "AND")
    || bytes_eq word (codes "BEGIN")
    || bytes_eq word (codes "BY")
    || bytes_eq word (codes "CALL")
    || bytes_eq word (codes "DO")
    || bytes_eq word (codes "DOWNTO")
    || bytes_eq word (codes "ELSE")

abbrev pub is_keyword_up_to_not : List ℕ → Bool
is_keyword_up_to_not word =
    bytes_eq word (codes "END")
    || bytes_eq word (codes "FOR")
    || bytes_eq word (codes "IF")
    || bytes_eq word (codes "INT")
    || bytes_eq word (codes "LITERAL")
    || bytes_eq word (codes "MAIN")
    || bytes_eq word (codes "NOT")

abbrev pub is_keyword_from_or : List ℕ → Bool
is_keyword_from_or word =
    bytes_eq word (codes "OR")
    || bytes_eq word (codes "PROC")
    || bytes_eq word (codes "RETURN")
    || bytes_eq word (codes "THEN")
    || bytes_eq word (codes "TO")
    || bytes_eq word (codes "UNTIL")
    || bytes_eq word (codes "WHILE")

-- whether it is a keyword of TAL
abbrev pub is_keyword : List ℕ → Bool
is_keyword word = is_keyword_up_to_else word || is_keyword_up_to_not word || is_keyword_from_or word

abbrev pub are_keyword : Option (List ℕ) → Bool
are_keyword None = false
are_keyword (Some word) = is_keyword word

-- whether it is a keyword behind which a name stands
abbrev pub declares : List ℕ → Bool
declares word =
    bytes_eq word (codes "INT") || bytes_eq word (codes "PROC") || bytes_eq word (codes "LITERAL")
    || bytes_eq word (codes "CALL")

abbrev pub are_declaring : Option (List ℕ) → Bool
are_declaring None = false
are_declaring (Some word) = declares word

abbrev pub are_int : Option (List ℕ) → Bool
are_int None = false
are_int (Some word) = bytes_eq word (codes "INT")

-- the last word of these; the first of all words where none follows
abbrev pub last_after : List ℕ → List (List ℕ) → List ℕ
last_after word [] = word
last_after word (next ∷ rest) = last_after next rest

abbrev pub is_sign : ℕ → Option ℕ → Bool
is_sign sign None = false
is_sign sign (Some c) = c == sign

-- behind this word a name has to stand: it declares or calls, or a comma ends it
abbrev pub asks_for_name : List ℕ → Bool
asks_for_name word = are_declaring (ident_of word) || is_sign 44 (slice_get word (length word - 1))

-- a keyword stands where a name has to
abbrev pub keyword_hint : List ℕ → List ℕ → Option Hint
keyword_hint before after =
    if are_keyword (name_at after) && asks_for_name (last_after [] (words_of before)) then Some hint.KeywordAsName
    else None

-- nothing but a list of names can stand there: 40 and 91 open parameters and bounds, and 59 ends the list
abbrev pub is_list : List ℕ → Bool
is_list before = not (has_sign 40 before || has_sign 91 before || has_sign 59 before)

-- the line begins with INT
abbrev pub begins_with_int : List (List ℕ) → Bool
begins_with_int [] = false
begins_with_int (word ∷ rest) = are_int (ident_of word)

abbrev pub local_hint : List ℕ → List ℕ → Option Hint
local_hint line before =
    if begins_with_int (words_of line) && is_list before then Some hint.LocalBeforeBegin else None

abbrev pub sign_hint : List ℕ → Option Hint
sign_hint after = if is_sign 13 (slice_get after 0) then Some hint.CarriageReturn else None

-- of a program's fault at a column of the line
abbrev pub program_hint : TalFault → List ℕ → Option Hint
program_hint (tal.BadCharacter place) line = sign_hint (drop (place.column - 1) line)
program_hint (tal.Expected place) line = keyword_hint (take (place.column - 1) line) (drop (place.column - 1) line)
program_hint (tal.Unknown place) line = local_hint line (take (place.column - 1) line)
program_hint _ line = None

-- of a deck's fault that stands on the line
abbrev pub hint_of : DeckFault → List ℕ → Option Hint
hint_of (deck.Line number) line = form_hint line
hint_of (deck.Program pair fault) line = program_hint fault line
hint_of (deck.NoEnd count) line = Some hint.PointAlone
hint_of _ line = None

-- what a hint says
abbrev pub hint_text : Hint → List ℕ
hint_text hint.CarriageReturn =
    codes "a carriage return stands here, as in files of DOS: a line ends with a line feed alone"
hint_text hint.Tab = codes "a tab stands here: outside programs spaces alone separate words"
hint_text hint.NoDollar = codes "the name of a process or a terminal begins with `$`"
hint_text hint.LocalBeforeBegin = codes "the names before BEGIN are the parameters; a local is declared after BEGIN"
hint_text hint.KeywordAsName = codes "this is a keyword of TAL, and no name"
hint_text hint.PointAlone = codes "a program ends with a line that is a point and nothing else, and a deck with END"

-- How the pieces of a printed text are spelled and laid out.
use Rattle.std.specs.Prelude.{ℕ, ◌+◌, ◌-◌, ◌*◌, ◌/◌, ◌%◌, min, Bool, true, false, ◌||◌, ℤ, pos, int_lt, List, [], ◌∷◌}
use Rattle.std.specs.Prelude.{◌++◌, replicate, codes, if◌then◌else◌}
use Rattle.std.specs.Fmt.{signed_decimal}
use Rattle.std.specs.Int.{cast_unsigned, w16}
use Rattle.tal_names.specs.declared.system.System.{System}
use Rattle.tal_names.specs.declared.system.System.TheVariants as system
use Rattle.tal_pieces.specs.declared.piece.Keyword.{Keyword}
use Rattle.tal_pieces.specs.declared.piece.Keyword.TheVariants as word
use Rattle.tal_pieces.specs.declared.piece.Symbol.{Symbol}
use Rattle.tal_pieces.specs.declared.piece.Symbol.TheVariants as sign
use Rattle.tal_pieces.specs.declared.piece.Piece.{Piece}
use Rattle.tal_pieces.specs.declared.piece.Piece.TheVariants as piece
use Rattle.tal_pieces.specs.declared.ending.Ending.{Ending}
use Rattle.tal_pieces.specs.declared.ending.Ending.TheVariants as ending

abbrev pub keyword_text : Keyword → List ℕ
keyword_text word.And = codes "AND"
keyword_text word.Begin = codes "BEGIN"
keyword_text word.By = codes "BY"
keyword_text word.Call = codes "CALL"
keyword_text word.Do = codes "DO"
keyword_text word.DownTo = codes "DOWNTO"
keyword_text word.Else = codes "ELSE"
keyword_text word.End = codes "END"
keyword_text word.For = codes "FOR"
keyword_text word.If = codes "IF"
keyword_text word.Int = codes "INT"
keyword_text word.Main = codes "MAIN"
keyword_text word.Not = codes "NOT"
keyword_text word.Or = codes "OR"
keyword_text word.Proc = codes "PROC"
keyword_text word.Return = codes "RETURN"
keyword_text word.Then = codes "THEN"
keyword_text word.To = codes "TO"
keyword_text word.Until = codes "UNTIL"
keyword_text word.While = codes "WHILE"

abbrev pub symbol_text : Symbol → List ℕ
symbol_text sign.Assign = codes ":="
symbol_text sign.Differs = codes "<>"
symbol_text sign.AtMost = codes "<="
symbol_text sign.AtLeast = codes ">="
symbol_text sign.Less = codes "<"
symbol_text sign.Greater = codes ">"
symbol_text sign.Equal = codes "="
symbol_text sign.Plus = codes "+"
symbol_text sign.Minus = codes "-"
symbol_text sign.Star = codes "*"
symbol_text sign.Slash = codes "/"
symbol_text sign.Open = codes "("
symbol_text sign.Close = codes ")"
symbol_text sign.OpenIndex = codes "["
symbol_text sign.CloseIndex = codes "]"
symbol_text sign.Comma = codes ","
symbol_text sign.Semicolon = codes ";"
symbol_text sign.Colon = codes ":"

abbrev pub system_text : System → List ℕ
system_text system.CheckMonitor = codes "CHECKMONITOR"
system_text system.Checkpoint = codes "CHECKPOINT"
system_text system.Open = codes "OPEN"
system_text system.ReadUpdate = codes "READUPDATE"
system_text system.Reply = codes "REPLY"
system_text system.Stop = codes "STOP"
system_text system.WriteRead = codes "WRITEREAD"

-- the octal digit of a pattern at the place of this weight
abbrev pub octal_digit : ℕ → ℕ → ℕ
octal_digit pattern weight = 48 + pattern / weight % 8

-- the six octal digits of a pattern of 16 bits
abbrev pub octal_text : ℕ → List ℕ
octal_text pattern =
    octal_digit pattern 32768 ∷ octal_digit pattern 4096 ∷ octal_digit pattern 512 ∷ octal_digit pattern 64
    ∷ octal_digit pattern 8 ∷ octal_digit pattern 1 ∷ []

-- a word in decimal digits; a negative one as `%` and the octal number of its pattern, since a number has no sign
abbrev pub number_text : ℤ → List ℕ
number_text n = if int_lt n (pos 0) then 37 ∷ octal_text (cast_unsigned w16 n) else signed_decimal n

-- a piece as it is spelled
abbrev pub text_of : Piece → List ℕ
text_of (piece.Keyword k) = keyword_text k
text_of (piece.Symbol s) = symbol_text s
text_of (piece.System s) = system_text s
text_of (piece.Name name) = name
text_of (piece.Number n) = number_text n
text_of piece.Receive = codes "\"$RECEIVE\""
text_of (piece.Process name) = 34 ∷ name ++ 34 ∷ []

-- what a text ends with, as far as the layout of the next piece goes: after `;` and BEGIN a line is full
abbrev pub ending_of : Piece → Ending
ending_of (piece.Keyword word.Begin) = ending.Line
ending_of (piece.Symbol sign.Semicolon) = ending.Line
ending_of (piece.Symbol sign.Open) = ending.Bracket
ending_of (piece.Symbol sign.OpenIndex) = ending.Bracket
ending_of (piece.Symbol sign.Colon) = ending.Colon
ending_of (piece.System s) = ending.Name
ending_of (piece.Name name) = ending.Name
ending_of _ = ending.Other

abbrev pub is_end : Piece → Bool
is_end (piece.Keyword word.End) = true
is_end _ = false

-- whether it is a bracket that begins a list or an index after a name
abbrev pub begins_list : Piece → Bool
begins_list (piece.Symbol sign.Open) = true
begins_list (piece.Symbol sign.OpenIndex) = true
begins_list _ = false

-- whether it stands right after the piece before it
abbrev pub hangs : Piece → Bool
hangs (piece.Symbol sign.Close) = true
hangs (piece.Symbol sign.CloseIndex) = true
hangs (piece.Symbol sign.Comma) = true
hangs (piece.Symbol sign.Semicolon) = true
hangs (piece.Symbol sign.Colon) = true
hangs _ = false

abbrev pub is_number : Piece → Bool
is_number (piece.Number n) = true
is_number _ = false

-- whether a piece stands without a space after what a text ends with
abbrev pub is_tight : Ending → Piece → Bool
is_tight ending.Nothing k = true
is_tight ending.Line k = true
is_tight ending.Bracket k = true
is_tight ending.Name k = hangs k || begins_list k
is_tight ending.Colon k = hangs k || is_number k
is_tight ending.Other k = hangs k

-- a new line, two spaces in for each BEGIN that is open
abbrev pub line_at : ℕ → List ℕ
line_at depth = 10 ∷ replicate (2 * depth) 32

-- how far in a line begins that begins with this piece
abbrev pub depth_at : ℕ → Piece → ℕ
depth_at depth k = if is_end k then depth - 1 else depth

-- how many of the BEGINs that are open after a piece move the lines in, which is at most 40
abbrev pub depth_after : ℕ → Piece → ℕ
depth_after depth (piece.Keyword word.Begin) = min 40 (depth + 1)
depth_after depth k = depth_at depth k

-- what stands before a piece
abbrev pub gap : ℕ → Ending → Piece → List ℕ
gap depth ending.Nothing k = []
gap depth ending.Line k = line_at (depth_at depth k)
gap depth e k = if is_end k then line_at (depth - 1) else if is_tight e k then [] else codes " "

-- a text that is being written: its bytes, how many open BEGINs move its lines in, and what it ends with
pub record Sheet : Type 0 where
  pub text : List ℕ
  pub depth : ℕ
  pub ending : Ending

-- a sheet with one more piece
abbrev pub laid : Sheet → Piece → Sheet
laid s k = record {
  text = s.text ++ gap s.depth s.ending k ++ text_of k;
  depth = depth_after s.depth k;
  ending = ending_of k;
}

-- a sheet with more pieces
abbrev pub lay : Sheet → List Piece → Sheet
lay s [] = s
lay s (k ∷ ks) = lay (laid s k) ks

abbrev pub blank : Sheet
blank = record { text = []; depth = 0; ending = ending.Nothing }

-- the text of these pieces; its last line ends with a line feed
abbrev pub text_of_pieces : List Piece → List ℕ
text_of_pieces ks = (lay blank ks).text ++ 10 ∷ []

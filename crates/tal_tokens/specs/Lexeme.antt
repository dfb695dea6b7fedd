-- What a text begins with: the longest piece that is a token, or the fault that stands there.
use Rattle.std.specs.Prelude.{ℕ, ◌+◌, ◌≤◌, ◌==◌, ◌&&◌, ◌||◌, not, nat_le, nat_eq, Bool, pos, List, [], ◌∷◌}
use Rattle.std.specs.Prelude.{length, take, slice_index, Option, Some, None, unwrap_or, map, codes, if◌then◌else◌}
use Rattle.std.specs.List.{position}
use Rattle.std.specs.Option.{option_or}
use Rattle.std.specs.Char.{is_ascii_digit, to_ascii_lowercase}
use Rattle.std.specs.Cmp.Lexicographic.{pointwise}
use Rattle.tal_tree.specs.gd_words.specs.Arithmetic.{wrap}
use Rattle.tal_tree.specs.gd_words.specs.Digits.{value_from}
use Rattle.tal_tree.specs.gd_words.specs.Spelling.{is_ident_sign, ident_of, name_of}
use Rattle.tal_tree.specs.declared.fault.TalFault.TheVariants as fault
use Rattle.tal_tokens.specs.declared.cursor.Cursor.{Cursor}
use Rattle.tal_tokens.specs.declared.token.At.{At}
use Rattle.tal_tokens.specs.declared.token.Token.{Token}
use Rattle.tal_tokens.specs.declared.token.Token.TheVariants as tok
use Rattle.tal_tokens.specs.declared.begun.Begun.{Begun}
use Rattle.tal_tokens.specs.declared.begun.Begun.TheVariants.{Gap, Whole, Broken}
use Rattle.tal_tokens.specs.Cursor.{at_front}

-- how many signs from the front on pass a test
abbrev pub run_of : (ℕ → Bool) → List ℕ → ℕ
run_of p text = unwrap_or (position (λ c. not (p c)) text) (length text)

abbrev pub is_octal : ℕ → Bool
is_octal c = nat_le 48 c && nat_le c 55

-- whether two texts are the same
abbrev pub same : List ℕ → List ℕ → Bool
same word text = pointwise nat_eq word text

-- the keyword that a text in upper case is
abbrev pub keyword_first : At → List ℕ → Option Token
keyword_first at word =
    if same word (codes "AND") then Some (tok.And at) else
    if same word (codes "BEGIN") then Some (tok.Begin at) else
    if same word (codes "BY") then Some (tok.By at) else
    if same word (codes "CALL") then Some (tok.Call at) else
    if same word (codes "DO") then Some (tok.Do at) else
    if same word (codes "DOWNTO") then Some (tok.DownTo at) else
    if same word (codes "ELSE") then Some (tok.Else at) else
    None

abbrev pub keyword_second : At → List ℕ → Option Token
keyword_second at word =
    if same word (codes "END") then Some (tok.End at) else
    if same word (codes "FOR") then Some (tok.For at) else
    if same word (codes "IF") then Some (tok.If at) else
    if same word (codes "INT") then Some (tok.Int at) else
    if same word (codes "LITERAL") then Some (tok.Literal at) else
    if same word (codes "MAIN") then Some (tok.Main at) else
    if same word (codes "NOT") then Some (tok.Not at) else
    None

abbrev pub keyword_third : At → List ℕ → Option Token
keyword_third at word =
    if same word (codes "OR") then Some (tok.Or at) else
    if same word (codes "PROC") then Some (tok.Proc at) else
    if same word (codes "RETURN") then Some (tok.Return at) else
    if same word (codes "THEN") then Some (tok.Then at) else
    if same word (codes "TO") then Some (tok.To at) else
    if same word (codes "UNTIL") then Some (tok.Until at) else
    if same word (codes "WHILE") then Some (tok.While at) else
    None

-- the token of a word in upper case: a keyword, or else a name
abbrev pub word_token : At → List ℕ → Token
word_token at word = unwrap_or (option_or (keyword_first at word)
    (option_or (keyword_second at word) (keyword_third at word))) (tok.Name at word)

abbrev pub named : Cursor → ℕ → Option (List ℕ) → Begun
named here n None = Broken (fault.NameTooLong here.place)
named here n (Some word) = Whole (word_token (at_front here n) word) n

-- a name or a keyword is as long as signs of names go on
abbrev pub name_begun : Cursor → List ℕ → Begun
name_begun here text = named here (run_of is_ident_sign text) (ident_of (take (run_of is_ident_sign text) text))

abbrev pub at_most : ℕ → ℕ → Option ℕ
at_most most v = if nat_le v most then Some v else None

abbrev pub numbered : Cursor → ℕ → Option ℕ → Begun
numbered here n None = Broken (fault.NumberTooLarge here.place)
numbered here n (Some v) = Whole (tok.Number (at_front here n) (wrap (pos v))) n

-- a decimal number is at most 32,767
abbrev pub decimal_begun : Cursor → List ℕ → Begun
decimal_begun here text = numbered here (run_of is_ascii_digit text)
    (at_most 32767 (value_from 10 0 (take (run_of is_ascii_digit text) text)))

-- an octal number after its `%` is at most %177777 and stands for the word of that pattern; `%` alone begins no token
abbrev pub octal_begun : Cursor → List ℕ → Begun
octal_begun here digits =
    if run_of is_octal digits == 0 then Broken (fault.BadCharacter here.place) else
    numbered here (run_of is_octal digits + 1) (at_most 65535 (value_from 8 0 (take (run_of is_octal digits) digits)))

abbrev pub process_token : At → Option (List ℕ) → Token
process_token at None = tok.Text at
process_token at (Some name) = tok.Process at name

-- the token of a string: `$RECEIVE` or a process's name, in either case, or another text
abbrev pub text_token : At → List ℕ → Token
text_token at text =
    if same (map to_ascii_lowercase text) (codes "$receive") then tok.Receive at else process_token at (name_of text)

-- a string goes up to the next quote on its line
abbrev pub is_string_end : ℕ → Bool
is_string_end c = (c == 34) || (c == 10)

abbrev pub string_to : Cursor → List ℕ → Option ℕ → Begun
string_to here rest None = Broken (fault.OpenString here.place)
string_to here rest (Some k) =
    if slice_index rest k == 34 then Whole (text_token (at_front here (k + 2)) (take k rest)) (k + 2) else
    Broken (fault.OpenString here.place)

abbrev pub string_begun : Cursor → List ℕ → Begun
string_begun here rest = string_to here rest (position is_string_end rest)

-- a symbol of two signs
abbrev pub pair_token : At → ℕ → ℕ → Option Token
pair_token at c d =
    if (c == 58) && (d == 61) then Some (tok.Assign at) else
    if (c == 60) && (d == 62) then Some (tok.Differs at) else
    if (c == 60) && (d == 61) then Some (tok.AtMost at) else
    if (c == 62) && (d == 61) then Some (tok.AtLeast at) else
    None

-- a symbol of one sign that opens, closes or separates
abbrev pub punctuation_token : At → ℕ → Option Token
punctuation_token at c =
    if c == 40 then Some (tok.Open at) else
    if c == 41 then Some (tok.Close at) else
    if c == 91 then Some (tok.OpenIndex at) else
    if c == 93 then Some (tok.CloseIndex at) else
    if c == 44 then Some (tok.Comma at) else
    if c == 59 then Some (tok.Semicolon at) else
    if c == 58 then Some (tok.Colon at) else
    None

-- a symbol of one sign
abbrev pub sign_token : At → ℕ → Option Token
sign_token at c =
    if c == 60 then Some (tok.Less at) else
    if c == 62 then Some (tok.Greater at) else
    if c == 61 then Some (tok.Equal at) else
    if c == 43 then Some (tok.Plus at) else
    if c == 45 then Some (tok.Minus at) else
    if c == 42 then Some (tok.Star at) else
    if c == 47 then Some (tok.Slash at) else
    punctuation_token at c

abbrev pub paired : At → ℕ → List ℕ → Option Token
paired at c [] = None
paired at c (d ∷ rest) = pair_token at c d

abbrev pub signed : Cursor → Option Token → Begun
signed here None = Broken (fault.BadCharacter here.place)
signed here (Some token) = Whole token 1

-- the longest symbol that fits
abbrev pub longest : Cursor → ℕ → Option Token → Begun
longest here c None = signed here (sign_token (at_front here 1) c)
longest here c (Some token) = Whole token 2

abbrev pub symbol_begun : Cursor → ℕ → List ℕ → Begun
symbol_begun here c rest = longest here c (paired (at_front here 2) c rest)

-- the signs that separate tokens: space, tab, line feed
abbrev pub is_blank : ℕ → Bool
is_blank c = (c == 32) || (c == 9) || (c == 10)

-- a comment goes up to the next `!`, or up to the end of its line
abbrev pub is_comment_end : ℕ → Bool
is_comment_end c = (c == 33) || (c == 10)

abbrev pub comment_to : List ℕ → Option ℕ → ℕ
comment_to rest None = length rest + 1
comment_to rest (Some k) = k + 2

-- how many bytes a comment takes, whose first `!` stands before the text
abbrev pub comment_of : List ℕ → ℕ
comment_of rest = comment_to rest (position is_comment_end rest)

-- what a text begins with
abbrev pub begun_of : Cursor → List ℕ → Begun
begun_of here [] = Gap 1
begun_of here (c ∷ rest) =
    if is_blank c then Gap 1 else
    if c == 33 then Gap (comment_of rest) else
    if is_ascii_digit c then decimal_begun here (c ∷ rest) else
    if is_ident_sign c then name_begun here (c ∷ rest) else
    if c == 37 then octal_begun here rest else
    if c == 34 then string_begun here rest else
    symbol_begun here c rest

-- what is passed over and what is a token take at least one byte and at most n
abbrev pub TakesUpTo : ℕ → Begun → Type 0
TakesUpTo n (Gap k) = (1 ≤ k) × (k ≤ n)
TakesUpTo n (Whole token k) = (1 ≤ k) × (k ≤ n)
TakesUpTo n (Broken fault) = Unit {0}

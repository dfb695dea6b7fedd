-- Every token of a text can be spelled.
use Rattle.std.proofs.Common.{◌≡◌, ℕ, ◌+◌, ◌-◌, ◌==◌, ◌&&◌, zero, suc, Bool, true, false, List, [], ◌∷◌, take, refl}
use Rattle.std.proofs.Common.{sym, ap, ◌∙◌, subst, if◌then◌else◌}
use Rattle.std.specs.Prelude.{pos, codes, map, unwrap_or, slice_index, Option, Some, None, FitsSigned}
use Rattle.std.specs.Int.{w16}
use Rattle.std.specs.Char.{is_ascii_digit, to_ascii_lowercase}
use Rattle.std.specs.List.{position}
use Rattle.std.specs.Option.{option_or}
use Rattle.std.proofs.lemmas.Int.{SFits-int_wrap}
use Rattle.gd_words.specs.Spelling.{is_ident, is_ident_sign, ident_of, is_name, upper}
use Rattle.tal_tokens.specs.declared.begun.Begun.{Begun}
use Rattle.tal_tokens.specs.declared.begun.Begun.TheVariants.{Gap, Whole, Broken}
use Rattle.tal_tokens.specs.declared.cursor.Cursor.{Cursor}
use Rattle.tal_tokens.specs.declared.lexer.TokenList.{TokenList}
use Rattle.tal_tokens.specs.declared.token.At.{At}
use Rattle.tal_tokens.specs.declared.token.Token.{Token}
use Rattle.tal_tokens.specs.declared.token.Token.TheVariants as tok
use Rattle.tal_tokens.specs.Cursor.{after, at_front, start_of_text}
use Rattle.tal_tokens.specs.Lexeme.{run_of, same, is_octal, keyword_first, keyword_second, keyword_third, word_token}
use Rattle.tal_tokens.specs.Lexeme.{named, name_begun, numbered, octal_begun, process_token, text_token, string_to}
use Rattle.tal_tokens.specs.Lexeme.{is_string_end, pair_token, punctuation_token, sign_token, paired, signed, longest}
use Rattle.tal_tokens.specs.Lexeme.{is_blank, begun_of}
use Rattle.tal_tokens.specs.Lexer.{lexed, lexed_by, tokens_of}
use Rattle.tal_pieces.specs.declared.piece.Piece.TheVariants as piece
use Rattle.tal_pieces.specs.Cuts.{IsSpellable}
use Rattle.tal_pieces.proofs.Spelling.UpperCase.{ident_again, name_again}
use Rattle.tal_pieces.proofs.Words.WordPrograms.{IsName}
use Rattle.tal_pieces.proofs.Common.Entries.{Each}

-- a name of a token is no keyword and is kept as it is spelled, its number is a word
abbrev pub IsSpelled : Token → Type 0
IsSpelled (tok.Name at name) = IsName name
IsSpelled (tok.Number at n) = FitsSigned w16 n
IsSpelled (tok.Process at name) = IsSpellable (piece.Process name)
IsSpelled _ = Unit {0}

-- the same of a token that may be there, and of what a text begins with
abbrev MaySpell : Option Token → Type 0
MaySpell None = Unit {0}
MaySpell (Some token) = IsSpelled token

abbrev BeginsWell : Begun → Type 0
BeginsWell (Gap n) = Unit {0}
BeginsWell (Whole token n) = IsSpelled token
BeginsWell (Broken fault) = Unit {0}

-- what holds of both branches
pub either : {A : Type 0} (P : A → Type 0) (b : Bool) (x y : A) → P x → P y → P (if b then x else y)
either P true x y h k = h
either P false x y h k = k

-- a keyword at each place, or none at any
data Alike (f : At → Option Token) : Type 0 where
  never : ((at : At) → f at ≡ None) → Alike f
  always : (token : At → Token) → ((at : At) → f at ≡ Some (token at)) → ((at : At) → IsSpelled (token at)) → Alike f

alike_if : (b : Bool) (token : At → Token) (rest : At → Option Token) → ((at : At) → IsSpelled (token at)) → Alike rest
    → Alike (λ at. if b then Some (token at) else rest at)
alike_if true token rest h r = always token (λ at. refl) h
alike_if false token rest h r = r

alike_or : (f h : At → Option Token) → Alike f → Alike h → Alike (λ at. option_or (f at) (h at))
alike_or f h (never e) (never d) = never (λ at. ap (λ o. option_or o (h at)) (e at) ∙ d at)
alike_or f h (never e) (always token d k) = always token (λ at. ap (λ o. option_or o (h at)) (e at) ∙ d at) k
alike_or f h (always token e k) r = always token (λ at. ap (λ o. option_or o (h at)) (e at)) k

-- the keywords
alike_first : (word : List ℕ) → Alike (λ at. keyword_first at word)
alike_first word =
    alike_if (same word (codes "AND")) (λ at. tok.And at) _ (λ at. tt) (
    alike_if (same word (codes "BEGIN")) (λ at. tok.Begin at) _ (λ at. tt) (
    alike_if (same word (codes "BY")) (λ at. tok.By at) _ (λ at. tt) (
    alike_if (same word (codes "CALL")) (λ at. tok.Call at) _ (λ at. tt) (
    alike_if (same word (codes "DO")) (λ at. tok.Do at) _ (λ at. tt) (
    alike_if (same word (codes "DOWNTO")) (λ at. tok.DownTo at) _ (λ at. tt) (
    alike_if (same word (codes "ELSE")) (λ at. tok.Else at) (λ at. None) (λ at. tt) (never (λ at. refl))))))))

alike_second : (word : List ℕ) → Alike (λ at. keyword_second at word)
alike_second word =
    alike_if (same word (codes "END")) (λ at. tok.End at) _ (λ at. tt) (
    alike_if (same word (codes "FOR")) (λ at. tok.For at) _ (λ at. tt) (
    alike_if (same word (codes "IF")) (λ at. tok.If at) _ (λ at. tt) (
    alike_if (same word (codes "INT")) (λ at. tok.Int at) _ (λ at. tt) (
    alike_if (same word (codes "LITERAL")) (λ at. tok.Literal at) _ (λ at. tt) (
    alike_if (same word (codes "MAIN")) (λ at. tok.Main at) _ (λ at. tt) (
    alike_if (same word (codes "NOT")) (λ at. tok.Not at) (λ at. None) (λ at. tt) (never (λ at. refl))))))))

alike_third : (word : List ℕ) → Alike (λ at. keyword_third at word)
alike_third word =
    alike_if (same word (codes "OR")) (λ at. tok.Or at) _ (λ at. tt) (
    alike_if (same word (codes "PROC")) (λ at. tok.Proc at) _ (λ at. tt) (
    alike_if (same word (codes "RETURN")) (λ at. tok.Return at) _ (λ at. tt) (
    alike_if (same word (codes "THEN")) (λ at. tok.Then at) _ (λ at. tt) (
    alike_if (same word (codes "TO")) (λ at. tok.To at) _ (λ at. tt) (
    alike_if (same word (codes "UNTIL")) (λ at. tok.Until at) _ (λ at. tt) (
    alike_if (same word (codes "WHILE")) (λ at. tok.While at) (λ at. None) (λ at. tt) (never (λ at. refl))))))))

-- a word in upper case is a keyword, or a name that is none
by_keyword : (word : List ℕ) (f : At → Option Token) → Alike f → ident_of word ≡ Some word
    → ((at : At) → word_token at word ≡ unwrap_or (f at) (tok.Name at word))
    → (at : At) → IsSpelled (word_token at word)
by_keyword word f (never e) kept is at =
    let plain : (here : At) → word_token here word ≡ tok.Name here word =
    λ here. is here ∙ ap (λ o. unwrap_or o (tok.Name here word)) (e here) in
    subst IsSpelled (sym (plain at)) (kept, plain)
by_keyword word f (always token e h) kept is at =
    subst IsSpelled (sym (is at ∙ ap (λ o. unwrap_or o (tok.Name at word)) (e at))) (h at)

word_well : (word : List ℕ) → ident_of word ≡ Some word → (at : At) → IsSpelled (word_token at word)
word_well word kept at =
    by_keyword word (λ here. option_or (keyword_first here word)
    (option_or (keyword_second here word) (keyword_third here word)))
    (alike_or (λ here. keyword_first here word)
    (λ here. option_or (keyword_second here word) (keyword_third here word)) (alike_first word)
    (alike_or (λ here. keyword_second here word) (λ here. keyword_third here word) (alike_second word)
    (alike_third word)))
    kept (λ here. refl) at

by_ident : (here : Cursor) (n : ℕ) (text : List ℕ) (b : Bool) → is_ident text ≡ b
    → BeginsWell (named here n (if b then Some (upper text) else None))
by_ident here n text true e = word_well (upper text) (ident_again text e) (at_front here n)
by_ident here n text false e = tt

name_well : (here : Cursor) (text : List ℕ) → BeginsWell (name_begun here text)
name_well here text = let word : List ℕ = take (run_of is_ident_sign text) text in
    by_ident here (run_of is_ident_sign text) word (is_ident word) refl

-- numbers are words
number_well : (here : Cursor) (n : ℕ) (found : Option ℕ) → BeginsWell (numbered here n found)
number_well here n None = tt
number_well here n (Some v) = SFits-int_wrap w16 (pos v)

octal_well : (here : Cursor) (digits : List ℕ) → BeginsWell (octal_begun here digits)
octal_well here digits =
    either BeginsWell (run_of is_octal digits == 0) _ _ tt (number_well here (run_of is_octal digits + 1) _)

-- strings
by_name : (at : At) (text : List ℕ) (b : Bool) → is_name text ≡ b
    → IsSpelled (process_token at (if b then Some (upper text) else None))
by_name at text true e = name_again text e
by_name at text false e = tt

text_well : (at : At) (text : List ℕ) → IsSpelled (text_token at text)
text_well at text = either IsSpelled (same (map to_ascii_lowercase text) (codes "$receive")) _ _ tt
    (by_name at text (is_name text) refl)

string_well : (here : Cursor) (rest : List ℕ) (found : Option ℕ) → BeginsWell (string_to here rest found)
string_well here rest None = tt
string_well here rest (Some k) =
    either BeginsWell (slice_index rest k == 34) _ _ (text_well (at_front here (k + 2)) (take k rest)) tt

-- symbols
may_if : (b : Bool) (token : Token) (rest : Option Token) → IsSpelled token → MaySpell rest
    → MaySpell (if b then Some token else rest)
may_if true token rest h k = h
may_if false token rest h k = k

pair_well : (at : At) (c d : ℕ) → MaySpell (pair_token at c d)
pair_well at c d =
    may_if ((c == 58) && (d == 61)) (tok.Assign at) _ tt (
    may_if ((c == 60) && (d == 62)) (tok.Differs at) _ tt (
    may_if ((c == 60) && (d == 61)) (tok.AtMost at) _ tt (
    may_if ((c == 62) && (d == 61)) (tok.AtLeast at) None tt tt)))

punctuation_well : (at : At) (c : ℕ) → MaySpell (punctuation_token at c)
punctuation_well at c =
    may_if (c == 40) (tok.Open at) _ tt (
    may_if (c == 41) (tok.Close at) _ tt (
    may_if (c == 91) (tok.OpenIndex at) _ tt (
    may_if (c == 93) (tok.CloseIndex at) _ tt (
    may_if (c == 44) (tok.Comma at) _ tt (
    may_if (c == 59) (tok.Semicolon at) _ tt (
    may_if (c == 58) (tok.Colon at) None tt tt))))))

sign_well : (at : At) (c : ℕ) → MaySpell (sign_token at c)
sign_well at c =
    may_if (c == 60) (tok.Less at) _ tt (
    may_if (c == 62) (tok.Greater at) _ tt (
    may_if (c == 61) (tok.Equal at) _ tt (
    may_if (c == 43) (tok.Plus at) _ tt (
    may_if (c == 45) (tok.Minus at) _ tt (
    may_if (c == 42) (tok.Star at) _ tt (
    may_if (c == 47) (tok.Slash at) (punctuation_token at c) tt (punctuation_well at c)))))))

paired_well : (at : At) (c : ℕ) (rest : List ℕ) → MaySpell (paired at c rest)
paired_well at c [] = tt
paired_well at c (d ∷ rest) = pair_well at c d

signed_well : (here : Cursor) (found : Option Token) → MaySpell found → BeginsWell (signed here found)
signed_well here None h = tt
signed_well here (Some token) h = h

longest_well : (here : Cursor) (c : ℕ) (found : Option Token) → MaySpell found → BeginsWell (longest here c found)
longest_well here c None h = signed_well here (sign_token (at_front here 1) c) (sign_well (at_front here 1) c)
longest_well here c (Some token) h = h

-- what a text begins with
begins_well : (here : Cursor) (text : List ℕ) → BeginsWell (begun_of here text)
begins_well here [] = tt
begins_well here (c ∷ rest) =
    either BeginsWell (is_blank c) _ _ tt (
    either BeginsWell (c == 33) _ _ tt (
    either BeginsWell (is_ascii_digit c) _ _ (number_well here (run_of is_ascii_digit (c ∷ rest)) _) (
    either BeginsWell (is_ident_sign c) _ _ (name_well here (c ∷ rest)) (
    either BeginsWell (c == 37) _ _ (octal_well here rest) (
    either BeginsWell (c == 34) _ _ (string_well here rest (position is_string_end rest))
    (longest_well here c (paired (at_front here 2) c rest) (paired_well (at_front here 2) c rest)))))))

-- all tokens
all_by : (b : Begun) (go : ℕ → TokenList) → BeginsWell b → ((k : ℕ) → Each IsSpelled (go k).list)
    → Each IsSpelled (lexed_by b go).list
all_by (Gap n) go h all = all (n - 1)
all_by (Whole token n) go h all = (h, all (n - 1))
all_by (Broken f) go h all = tt

all_lexed : (skip : ℕ) (here : Cursor) (text : List ℕ) → Each IsSpelled (lexed skip here text).list
all_lexed skip here [] = (tt, tt)
all_lexed zero here (c ∷ rest) =
    all_by (begun_of here (c ∷ rest)) (λ k. lexed k (after here c) rest) (begins_well here (c ∷ rest))
    (λ k. all_lexed k (after here c) rest)
all_lexed (suc skip) here (c ∷ rest) = all_lexed skip (after here c) rest

pub tokens_spelled : (source : List ℕ) → Each IsSpelled (tokens_of source).list
tokens_spelled source = all_lexed 0 start_of_text source

-- What stands after a piece doesn't run together with it.
use Rattle.std.proofs.Common.{◌≡◌, ℕ, ◌-◌, ◌<◌, ◌≤◌, ◌^◌, suc, Bool, true, false, not, ◌&&◌, ◌||◌, ◌==◌, List, [], ◌∷◌}
use Rattle.std.proofs.Common.{◌++◌, length, nat_le, refl, ap, ◌∙◌, arith, if◌then◌else◌}
use Rattle.std.specs.Prelude.{ℤ, pos, negsuc, codes, FitsSigned}
use Rattle.std.specs.Char.{is_ascii_digit}
use Rattle.std.specs.Int.{cast_unsigned, w16}
use Rattle.std.specs.Fmt.{decimal}
use Rattle.std.specs.Str.{all_ascii_digits}
use Rattle.std.proofs.lemmas.Int.{ints}
use Rattle.std.proofs.lemmas.Bool.{and_parts, leb-true, lt-leb, eqb-true, not_from_false, false_from_ne_true}
use Rattle.std.proofs.lemmas.Fmt.{digits_decimal, decimal_nonempty}
use Rattle.std.proofs.lemmas.Str.Parse.{tells_all_ascii_digits, numerals_by_value}
use Rattle.gd_words.specs.Spelling.{is_ident_sign}
use Rattle.tal_pieces.specs.declared.ending.Ending.{Ending}
use Rattle.tal_pieces.specs.declared.ending.Ending.TheVariants as ending
use Rattle.tal_pieces.specs.declared.piece.Symbol.TheVariants as sign
use Rattle.tal_pieces.specs.declared.piece.Piece.{Piece}
use Rattle.tal_pieces.specs.declared.piece.Piece.TheVariants as piece
use Rattle.tal_pieces.specs.Spelling.{text_of, hangs, begins_list, is_number, is_end, line_at, gap, number_text}
use Rattle.tal_pieces.specs.Spelling.{octal_text}
use Rattle.tal_pieces.specs.Cuts.{IsSpellable}

-- whether the first byte of a text, if it has one, passes
abbrev pub heads : (ℕ → Bool) → List ℕ → Bool
heads p [] = true
heads p (c ∷ rest) = p c

-- what ends a word, a number and a symbol of one sign
abbrev pub stops : ℕ → Bool
stops c = not (is_ident_sign c) && (not (c == 61) && not (c == 62))

-- what may stand right after such an ending
abbrev pub parts : Ending → ℕ → Bool
parts ending.Nothing c = true
parts ending.Line c = stops c
parts ending.Bracket c = true
parts ending.Name c = stops c
parts ending.Colon c = not (c == 61)
parts ending.Other c = stops c

abbrev implied : Bool → Bool → Bool
implied true b = b
implied false b = true

always : (e : Ending) (x : List ℕ) → ((c : ℕ) → parts e c ≡ true) → heads (parts e) x ≡ true
always e [] h = refl
always e (c ∷ rest) h = h c

by_gap : (p : ℕ → Bool) → p 10 ≡ true → p 32 ≡ true → (ended tight : Bool) (depth : ℕ) (x : List ℕ)
    → implied tight (heads p x) ≡ true
    → heads p ((if ended then line_at depth else if tight then [] else codes " ") ++ x) ≡ true
by_gap p line space true tight depth x h = line
by_gap p line space false true depth x h = h
by_gap p line space false false depth x h = space

hanging : (k : Piece) (rest : List ℕ) → implied (hangs k) (heads stops (text_of k ++ rest)) ≡ true
hanging (piece.Symbol sign.Assign) rest = refl
hanging (piece.Symbol sign.Differs) rest = refl
hanging (piece.Symbol sign.AtMost) rest = refl
hanging (piece.Symbol sign.AtLeast) rest = refl
hanging (piece.Symbol sign.Less) rest = refl
hanging (piece.Symbol sign.Greater) rest = refl
hanging (piece.Symbol sign.Equal) rest = refl
hanging (piece.Symbol sign.Plus) rest = refl
hanging (piece.Symbol sign.Minus) rest = refl
hanging (piece.Symbol sign.Star) rest = refl
hanging (piece.Symbol sign.Slash) rest = refl
hanging (piece.Symbol sign.Open) rest = refl
hanging (piece.Symbol sign.Close) rest = refl
hanging (piece.Symbol sign.OpenIndex) rest = refl
hanging (piece.Symbol sign.CloseIndex) rest = refl
hanging (piece.Symbol sign.Comma) rest = refl
hanging (piece.Symbol sign.Semicolon) rest = refl
hanging (piece.Symbol sign.Colon) rest = refl
hanging (piece.Keyword k) rest = refl
hanging (piece.System s) rest = refl
hanging (piece.Name name) rest = refl
hanging (piece.Number n) rest = refl
hanging piece.Receive rest = refl
hanging (piece.Process name) rest = refl

listing : (k : Piece) (rest : List ℕ) → implied (hangs k || begins_list k) (heads stops (text_of k ++ rest)) ≡ true
listing (piece.Symbol sign.Assign) rest = refl
listing (piece.Symbol sign.Differs) rest = refl
listing (piece.Symbol sign.AtMost) rest = refl
listing (piece.Symbol sign.AtLeast) rest = refl
listing (piece.Symbol sign.Less) rest = refl
listing (piece.Symbol sign.Greater) rest = refl
listing (piece.Symbol sign.Equal) rest = refl
listing (piece.Symbol sign.Plus) rest = refl
listing (piece.Symbol sign.Minus) rest = refl
listing (piece.Symbol sign.Star) rest = refl
listing (piece.Symbol sign.Slash) rest = refl
listing (piece.Symbol sign.Open) rest = refl
listing (piece.Symbol sign.Close) rest = refl
listing (piece.Symbol sign.OpenIndex) rest = refl
listing (piece.Symbol sign.CloseIndex) rest = refl
listing (piece.Symbol sign.Comma) rest = refl
listing (piece.Symbol sign.Semicolon) rest = refl
listing (piece.Symbol sign.Colon) rest = refl
listing (piece.Keyword k) rest = refl
listing (piece.System s) rest = refl
listing (piece.Name name) rest = refl
listing (piece.Number n) rest = refl
listing piece.Receive rest = refl
listing (piece.Process name) rest = refl

not_equal : (c : ℕ) → is_ascii_digit c ≡ true → not (c == 61) ≡ true
not_equal c digit =
    let parts : (nat_le 48 c ≡ true) × (nat_le c 57 ≡ true) = and_parts (nat_le 48 c) (nat_le c 57) digit in
    let below : c ≤ 57 = leb-true c 57 parts.1 in
    not_from_false (c == 61) (false_from_ne_true (c == 61) (λ e. omega (arith, eqb-true c 61 e, below)))

pub word_below : (m : ℕ) → FitsSigned w16 (pos m) → m < 2 ^ 64
word_below m fits = omega (arith, ints, fits)

digits_first : (digits rest : List ℕ) → 0 < length digits → all_ascii_digits digits ≡ true
    → heads (parts ending.Colon) (digits ++ rest) ≡ true
digits_first [] rest some all = absurd (omega arith)
digits_first (c ∷ cs) rest some all = not_equal c (and_parts (is_ascii_digit c) (all_ascii_digits cs) all).0

pub text_positive : (m : ℕ) → number_text (pos m) ≡ decimal m
text_positive m =
    ap (λ b. if b then 37 ∷ octal_text (cast_unsigned w16 (pos m)) else decimal m) (lt-leb (suc m) 0 (omega arith))

pub text_negative : (m : ℕ) → number_text (negsuc m) ≡ 37 ∷ octal_text (cast_unsigned w16 (negsuc m))
text_negative m = refl

numbered : (n : ℤ) (rest : List ℕ) → FitsSigned w16 n → heads (parts ending.Colon) (number_text n ++ rest) ≡ true
numbered (pos m) rest fits =
    let below : m < 2 ^ 64 = word_below m fits in
    ap (λ text. heads (parts ending.Colon) (text ++ rest)) (text_positive m)
    ∙ digits_first (decimal m) rest (decimal_nonempty m below)
    (digits_decimal (numerals_by_value (λ ds. all_ascii_digits ds ≡ true) tells_all_ascii_digits) m below)
numbered (negsuc m) rest fits = refl

colon_next : (k : Piece) (rest : List ℕ) → IsSpellable k
    → implied (hangs k || is_number k) (heads (parts ending.Colon) (text_of k ++ rest)) ≡ true
colon_next (piece.Symbol sign.Assign) rest h = refl
colon_next (piece.Symbol sign.Differs) rest h = refl
colon_next (piece.Symbol sign.AtMost) rest h = refl
colon_next (piece.Symbol sign.AtLeast) rest h = refl
colon_next (piece.Symbol sign.Less) rest h = refl
colon_next (piece.Symbol sign.Greater) rest h = refl
colon_next (piece.Symbol sign.Equal) rest h = refl
colon_next (piece.Symbol sign.Plus) rest h = refl
colon_next (piece.Symbol sign.Minus) rest h = refl
colon_next (piece.Symbol sign.Star) rest h = refl
colon_next (piece.Symbol sign.Slash) rest h = refl
colon_next (piece.Symbol sign.Open) rest h = refl
colon_next (piece.Symbol sign.Close) rest h = refl
colon_next (piece.Symbol sign.OpenIndex) rest h = refl
colon_next (piece.Symbol sign.CloseIndex) rest h = refl
colon_next (piece.Symbol sign.Comma) rest h = refl
colon_next (piece.Symbol sign.Semicolon) rest h = refl
colon_next (piece.Symbol sign.Colon) rest h = refl
colon_next (piece.Keyword k) rest h = refl
colon_next (piece.System s) rest h = refl
colon_next (piece.Name name) rest h = refl
colon_next (piece.Number n) rest h = numbered n rest h
colon_next piece.Receive rest h = refl
colon_next (piece.Process name) rest h = refl

-- what the layout puts after an ending may stand right after it
pub follow : (depth : ℕ) (e : Ending) (k : Piece) (rest : List ℕ) → IsSpellable k
    → heads (parts e) (gap depth e k ++ (text_of k ++ rest)) ≡ true
follow depth ending.Nothing k rest h = always ending.Nothing (text_of k ++ rest) (λ c. refl)
follow depth ending.Line k rest h = refl
follow depth ending.Bracket k rest h =
    always ending.Bracket (gap depth ending.Bracket k ++ (text_of k ++ rest)) (λ c. refl)
follow depth ending.Name k rest h = by_gap (parts ending.Name) refl refl (is_end k) (hangs k || begins_list k)
    (depth - 1) (text_of k ++ rest) (listing k rest)
follow depth ending.Colon k rest h = by_gap (parts ending.Colon) refl refl (is_end k) (hangs k || is_number k)
    (depth - 1) (text_of k ++ rest) (colon_next k rest h)
follow depth ending.Other k rest h =
    by_gap (parts ending.Other) refl refl (is_end k) (hangs k) (depth - 1) (text_of k ++ rest) (hanging k rest)

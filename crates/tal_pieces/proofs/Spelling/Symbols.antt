-- A text that begins with a spelled symbol begins with the symbol's token.
use Rattle.std.proofs.Common.{◌≡◌, ℕ, true, false, not, ◌&&◌, ◌==◌, List, [], ◌∷◌, refl, ap, ap₂, if◌then◌else◌}
use Rattle.std.specs.Prelude.{Some, None}
use Rattle.std.proofs.lemmas.Bool.{and_parts, not-true}
use Rattle.gd_words.specs.Spelling.{is_ident_sign}
use Rattle.tal_tokens.specs.declared.cursor.Cursor.{Cursor}
use Rattle.tal_tokens.specs.declared.token.At.{At}
use Rattle.tal_tokens.specs.declared.token.Token.TheVariants as tok
use Rattle.tal_tokens.specs.Cursor.{at_front}
use Rattle.tal_tokens.specs.Lexeme.{longest, paired, pair_token}
use Rattle.tal_pieces.specs.declared.piece.Symbol.{Symbol}
use Rattle.tal_pieces.specs.declared.piece.Symbol.TheVariants as sign
use Rattle.tal_pieces.specs.declared.piece.Piece.TheVariants as piece
use Rattle.tal_pieces.specs.Spelling.{symbol_text, ending_of}
use Rattle.tal_pieces.specs.Cuts.{symbol_token}
use Rattle.tal_pieces.proofs.Spelling.Begun.{BeginsWith}
use Rattle.tal_pieces.proofs.Spelling.Follow.{heads, stops, parts}

no_equal : (c : ℕ) → stops c ≡ true → (c == 61) ≡ false
no_equal c h = not-true (c == 61) (and_parts (not (c == 61)) (not (c == 62))
    (and_parts (not (is_ident_sign c)) (not (c == 61) && not (c == 62)) h).1).0

no_greater : (c : ℕ) → stops c ≡ true → (c == 62) ≡ false
no_greater c h = not-true (c == 62) (and_parts (not (c == 61)) (not (c == 62))
    (and_parts (not (is_ident_sign c)) (not (c == 61) && not (c == 62)) h).1).1

lone : (here : Cursor) (c : ℕ) (rest : List ℕ) → ((at : At) (d : ℕ) → pair_token at c d ≡ None)
    → paired (at_front here 2) c rest ≡ None
lone here c [] none = refl
lone here c (d ∷ rest) none = none (at_front here 2) d

less : (here : Cursor) (rest : List ℕ) → heads stops rest ≡ true → paired (at_front here 2) 60 rest ≡ None
less here [] h = refl
less here (d ∷ rest) h =
    ap₂ (λ x y. if x then Some (tok.Differs (at_front here 2)) else if y then Some (tok.AtMost (at_front here 2)) else
    None) (no_greater d h) (no_equal d h)

greater : (here : Cursor) (rest : List ℕ) → heads stops rest ≡ true → paired (at_front here 2) 62 rest ≡ None
greater here [] h = refl
greater here (d ∷ rest) h = ap (λ x. if x then Some (tok.AtLeast (at_front here 2)) else None) (no_equal d h)

colon : (here : Cursor) (rest : List ℕ) → heads (λ c. not (c == 61)) rest ≡ true
    → paired (at_front here 2) 58 rest ≡ None
colon here [] h = refl
colon here (d ∷ rest) h = ap (λ x. if x then Some (tok.Assign (at_front here 2)) else None) (not-true (d == 61) h)

pub symbol_begun : (here : Cursor) (s : Symbol) (rest : List ℕ) → heads (parts (ending_of (piece.Symbol s))) rest ≡ true
    → BeginsWith here (symbol_text s) rest (λ at. symbol_token at s)
symbol_begun here sign.Assign rest h = refl
symbol_begun here sign.Differs rest h = refl
symbol_begun here sign.AtMost rest h = refl
symbol_begun here sign.AtLeast rest h = refl
symbol_begun here sign.Less rest h = ap (longest here 60) (less here rest h)
symbol_begun here sign.Greater rest h = ap (longest here 62) (greater here rest h)
symbol_begun here sign.Equal rest h = ap (longest here 61) (lone here 61 rest (λ at d. refl))
symbol_begun here sign.Plus rest h = ap (longest here 43) (lone here 43 rest (λ at d. refl))
symbol_begun here sign.Minus rest h = ap (longest here 45) (lone here 45 rest (λ at d. refl))
symbol_begun here sign.Star rest h = ap (longest here 42) (lone here 42 rest (λ at d. refl))
symbol_begun here sign.Slash rest h = ap (longest here 47) (lone here 47 rest (λ at d. refl))
symbol_begun here sign.Open rest h = ap (longest here 40) (lone here 40 rest (λ at d. refl))
symbol_begun here sign.Close rest h = ap (longest here 41) (lone here 41 rest (λ at d. refl))
symbol_begun here sign.OpenIndex rest h = ap (longest here 91) (lone here 91 rest (λ at d. refl))
symbol_begun here sign.CloseIndex rest h = ap (longest here 93) (lone here 93 rest (λ at d. refl))
symbol_begun here sign.Comma rest h = ap (longest here 44) (lone here 44 rest (λ at d. refl))
symbol_begun here sign.Semicolon rest h = ap (longest here 59) (lone here 59 rest (λ at d. refl))
symbol_begun here sign.Colon rest h = ap (longest here 58) (colon here rest h)

-- How the tokens of a text are found one after the other.
use Rattle.std.proofs.Common.{◌≡◌, ℕ, ◌<◌, ◌≤◌, zero, suc, List, [], ◌∷◌, ◌++◌, length, take, drop, refl, sym, ap, ◌∙◌}
use Rattle.std.proofs.Common.{arith, append_assoc}
use Rattle.tal_tokens.specs.declared.begun.Begun.TheVariants.{Gap, Whole, Broken}
use Rattle.tal_tokens.specs.declared.cursor.Cursor.{Cursor}
use Rattle.tal_tokens.specs.declared.lexer.TokenList.{TokenList}
use Rattle.tal_tokens.specs.declared.token.Token.{Token}
use Rattle.tal_tokens.specs.Cursor.{after, passed}
use Rattle.tal_tokens.specs.Lexeme.{begun_of}
use Rattle.tal_tokens.specs.Lexer.{lexed, lexed_by, with_front}

-- the tokens so far before those that come
abbrev pub onto : List Token → TokenList → TokenList
onto list tokens = record tokens { list = list ++ tokens.list }

-- bytes of the token before are passed over
pub skipped : (k : ℕ) (here : Cursor) (text : List ℕ) → k ≤ length text
    → lexed k here text ≡ lexed 0 (passed here (take k text)) (drop k text)
skipped zero here [] h = refl
skipped zero here (c ∷ text) h = refl
skipped (suc k) here [] h = absurd (omega arith)
skipped (suc k) here (c ∷ text) h = skipped k (after here c) text (omega arith)

pub after_gap : (list : List Token) (here : Cursor) (rest : List ℕ) (n : ℕ) → 1 ≤ n → n ≤ length rest
    → begun_of here rest ≡ Gap n
    → onto list (lexed 0 here rest) ≡ onto list (lexed 0 (passed here (take n rest)) (drop n rest))
after_gap list here [] n low high e = absurd (omega arith)
after_gap list here (c ∷ rest) zero low high e = absurd (omega arith)
after_gap list here (c ∷ rest) (suc n) low high e =
    ap (λ b. onto list (lexed_by b (λ k. lexed k (after here c) rest))) e
    ∙ ap (λ tokens. onto list tokens) (ap (λ k. lexed k (after here c) rest) (omega arith)
    ∙ skipped n (after here c) rest (omega arith))

pub after_token : (list : List Token) (here : Cursor) (rest : List ℕ) (token : Token) (n : ℕ) → 1 ≤ n → n ≤ length rest
    → begun_of here rest ≡ Whole token n
    → onto list (lexed 0 here rest) ≡ onto (list ++ token ∷ []) (lexed 0 (passed here (take n rest)) (drop n rest))
after_token list here [] token n low high e = absurd (omega arith)
after_token list here (c ∷ rest) token zero low high e = absurd (omega arith)
after_token list here (c ∷ rest) token (suc n) low high e =
    ap (λ b. onto list (lexed_by b (λ k. lexed k (after here c) rest))) e
    ∙ ap (λ tokens. onto list (with_front token tokens))
    (ap (λ k. lexed k (after here c) rest) (omega arith) ∙ skipped n (after here c) rest (omega arith))
    ∙ ap (λ xs. record (lexed 0 (passed (after here c) (take n rest)) (drop n rest)) { list = xs })
    (sym (append_assoc list (token ∷ []) _))

pub at_fault : (list : List Token) (here : Cursor) (rest : List ℕ) (f : _) → 0 < length rest
    → begun_of here rest ≡ Broken f → lexed 0 here rest ≡ lexed_by (Broken f) (λ k. lexed k here [])
at_fault list here [] f h e = absurd (omega arith)
at_fault list here (c ∷ rest) f h e = ap (λ b. lexed_by b (λ k. lexed k (after here c) rest)) e

-- The tokens of a text without fault end with its end.
use Rattle.std.proofs.Common.{◌≡◌, ℕ, ◌-◌, zero, suc, List, [], ◌∷◌, refl, sym, ap}
use Rattle.std.proofs.lemmas.Option.{none-some}
use Rattle.tal_tokens.specs.declared.begun.Begun.{Begun}
use Rattle.tal_tokens.specs.declared.begun.Begun.TheVariants.{Gap, Whole, Broken}
use Rattle.tal_tokens.specs.declared.cursor.Cursor.{Cursor}
use Rattle.tal_tokens.specs.declared.lexer.TokenList.{TokenList}
use Rattle.tal_tokens.specs.Cursor.{after, at_front, start_of_text}
use Rattle.tal_tokens.specs.Lexeme.{begun_of}
use Rattle.tal_tokens.specs.Lexer.{lexed, lexed_by, tokens_of, IsEnded}

ended-by : (b : Begun) (go : ℕ → TokenList) → ((k : ℕ) → IsEnded (go k)) → IsEnded (lexed_by b go)
ended-by (Gap n) go h e = h (n - 1) e
ended-by (Whole token n) go h e = let r = h (n - 1) e in (token ∷ r.0, r.1, ap (λ l. token ∷ l) r.2)
ended-by (Broken f) go h e = absurd (none-some f (sym e))

ended-lexed : (skip : ℕ) (here : Cursor) (text : List ℕ) → IsEnded (lexed skip here text)
ended-lexed skip here [] e = ([], at_front here 0, refl)
ended-lexed zero here (c ∷ rest) e =
    ended-by (begun_of here (c ∷ rest)) (λ k. lexed k (after here c) rest) (λ k. ended-lexed k (after here c) rest) e
ended-lexed (suc skip) here (c ∷ rest) e = ended-lexed skip (after here c) rest e

pub ended : (text : List ℕ) → IsEnded (tokens_of text)
ended text = ended-lexed 0 start_of_text text

pub ended-is : (tokens : TokenList) (text : List ℕ) → tokens ≡ tokens_of text → IsEnded tokens
ended-is tokens text e = rw e (ended text)

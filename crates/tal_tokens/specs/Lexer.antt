-- The tokens of a text.
use Rattle.std.specs.Prelude.{ℕ, ◌≡◌, ◌-◌, zero, suc, List, [], ◌∷◌, ◌++◌, Some, None}
use Rattle.tal_tokens.specs.declared.token.At.{At}
use Rattle.tal_tokens.specs.declared.begun.Begun.{Begun}
use Rattle.tal_tokens.specs.declared.begun.Begun.TheVariants.{Gap, Whole, Broken}
use Rattle.tal_tokens.specs.declared.cursor.Cursor.{Cursor}
use Rattle.tal_tokens.specs.declared.lexer.TokenList.{TokenList}
use Rattle.tal_tokens.specs.declared.token.Token.{Token}
use Rattle.tal_tokens.specs.declared.token.Token.TheVariants.{Finish}
use Rattle.tal_tokens.specs.Cursor.{after, at_front, start_of_text}
use Rattle.tal_tokens.specs.Lexeme.{begun_of}

abbrev pub with_front : Token → TokenList → TokenList
with_front token tokens = record tokens { list = token ∷ tokens.list }

-- what comes of what stands here, where `go k` is what comes after k further bytes
abbrev pub lexed_by : Begun → (ℕ → TokenList) → TokenList
lexed_by (Gap n) go = go (n - 1)
lexed_by (Whole token n) go = with_front token (go (n - 1))
lexed_by (Broken fault) go = record { list = []; fault = Some fault }

-- the tokens of a text from a place on; its first `skip` bytes belong to the token before
abbrev pub lexed : ℕ → Cursor → List ℕ → TokenList
lexed skip here [] = record { list = Finish (at_front here 0) ∷ []; fault = None }
lexed zero here (c ∷ rest) = lexed_by (begun_of here (c ∷ rest)) (λ k. lexed k (after here c) rest)
lexed (suc skip) here (c ∷ rest) = lexed skip (after here c) rest

-- the tokens of a text
abbrev pub tokens_of : List ℕ → TokenList
tokens_of text = lexed 0 start_of_text text

-- the tokens of a text without fault end with its end
abbrev pub IsEnded : TokenList → Type 0
IsEnded tokens = tokens.fault ≡ None → (front : List Token) × (at : At) × (tokens.list ≡ front ++ Finish at ∷ [])

-- What the text of pieces is cut into.
use Rattle.std.specs.Prelude.{◌≡◌, ℕ, List, [], ◌∷◌, Some, None, FitsSigned}
use Rattle.std.specs.Int.{w16}
use Rattle.gd_words.specs.Spelling.{ident_of, name_of}
use Rattle.tal_tokens.specs.declared.token.At.{At}
use Rattle.tal_tokens.specs.declared.token.Token.{Token}
use Rattle.tal_tokens.specs.declared.token.Token.TheVariants as tok
use Rattle.tal_tokens.specs.Lexeme.{word_token}
use Rattle.tal_tokens.specs.Lexer.{tokens_of}
use Rattle.tal_pieces.specs.declared.piece.Keyword.{Keyword}
use Rattle.tal_pieces.specs.declared.piece.Keyword.TheVariants as word
use Rattle.tal_pieces.specs.declared.piece.Symbol.{Symbol}
use Rattle.tal_pieces.specs.declared.piece.Symbol.TheVariants as sign
use Rattle.tal_pieces.specs.declared.piece.Piece.{Piece}
use Rattle.tal_pieces.specs.declared.piece.Piece.TheVariants as piece
use Rattle.tal_pieces.specs.Spelling.{system_text}

abbrev pub keyword_token : At → Keyword → Token
keyword_token at word.And = tok.And at
keyword_token at word.Begin = tok.Begin at
keyword_token at word.By = tok.By at
keyword_token at word.Call = tok.Call at
keyword_token at word.Do = tok.Do at
keyword_token at word.DownTo = tok.DownTo at
keyword_token at word.Else = tok.Else at
keyword_token at word.End = tok.End at
keyword_token at word.For = tok.For at
keyword_token at word.If = tok.If at
keyword_token at word.Int = tok.Int at
keyword_token at word.Main = tok.Main at
keyword_token at word.Not = tok.Not at
keyword_token at word.Or = tok.Or at
keyword_token at word.Proc = tok.Proc at
keyword_token at word.Return = tok.Return at
keyword_token at word.Then = tok.Then at
keyword_token at word.To = tok.To at
keyword_token at word.Until = tok.Until at
keyword_token at word.While = tok.While at

abbrev pub symbol_token : At → Symbol → Token
symbol_token at sign.Assign = tok.Assign at
symbol_token at sign.Differs = tok.Differs at
symbol_token at sign.AtMost = tok.AtMost at
symbol_token at sign.AtLeast = tok.AtLeast at
symbol_token at sign.Less = tok.Less at
symbol_token at sign.Greater = tok.Greater at
symbol_token at sign.Equal = tok.Equal at
symbol_token at sign.Plus = tok.Plus at
symbol_token at sign.Minus = tok.Minus at
symbol_token at sign.Star = tok.Star at
symbol_token at sign.Slash = tok.Slash at
symbol_token at sign.Open = tok.Open at
symbol_token at sign.Close = tok.Close at
symbol_token at sign.OpenIndex = tok.OpenIndex at
symbol_token at sign.CloseIndex = tok.CloseIndex at
symbol_token at sign.Comma = tok.Comma at
symbol_token at sign.Semicolon = tok.Semicolon at
symbol_token at sign.Colon = tok.Colon at

-- the token of a piece that stands at a place
abbrev pub token_of : At → Piece → Token
token_of at (piece.Keyword k) = keyword_token at k
token_of at (piece.Symbol s) = symbol_token at s
token_of at (piece.System s) = tok.Name at (system_text s)
token_of at (piece.Name name) = tok.Name at name
token_of at (piece.Number n) = tok.Number at n
token_of at piece.Receive = tok.Receive at
token_of at (piece.Process name) = tok.Process at name

-- tokens that are these pieces in order, at some places, and then the end
pub data AreTokens : List Piece → List Token → Type 0 where
  finished : (at : At) → AreTokens [] (tok.Finish at ∷ [])
  followed : {ks : List Piece} {tokens : List Token} (at : At) (k : Piece) → AreTokens ks tokens
      → AreTokens (k ∷ ks) (token_of at k ∷ tokens)

-- what can be spelled: a name that is kept as it is spelled and is no keyword, a number that is a word, the name of a
-- process
abbrev pub IsSpellable : Piece → Type 0
IsSpellable (piece.Name name) = (ident_of name ≡ Some name) × ((at : At) → word_token at name ≡ tok.Name at name)
IsSpellable (piece.Number n) = FitsSigned w16 n
IsSpellable (piece.Process name) = name_of name ≡ Some name
IsSpellable _ = Unit {0}

abbrev pub AreSpellable : List Piece → Type 0
AreSpellable [] = Unit {0}
AreSpellable (k ∷ ks) = IsSpellable k × AreSpellable ks

-- a text is cut into these pieces and has no fault
pub record CutsInto (ks : List Piece) (text : List ℕ) : Type 0 where
  pub list : List Token
  pub tokens : tokens_of text ≡ record { list = list; fault = None }
  pub pieces : AreTokens ks list

-- Where a token stands.
use Rattle.std.specs.Prelude.{Option, Some, None, unwrap_or}
use Rattle.std.specs.Option.{option_or}
use Rattle.tal_tokens.specs.declared.token.At.{At}
use Rattle.tal_tokens.specs.declared.token.Token.{Token}
use Rattle.tal_tokens.specs.declared.token.Token.TheVariants as tok
use Rattle.tal_tree.specs.declared.place.Place.{Place}

-- where a keyword stands
abbrev pub keyword_at : Token → Option At
keyword_at (tok.And at) = Some at
keyword_at (tok.Begin at) = Some at
keyword_at (tok.By at) = Some at
keyword_at (tok.Call at) = Some at
keyword_at (tok.Do at) = Some at
keyword_at (tok.DownTo at) = Some at
keyword_at (tok.Else at) = Some at
keyword_at (tok.End at) = Some at
keyword_at (tok.For at) = Some at
keyword_at (tok.If at) = Some at
keyword_at (tok.Int at) = Some at
keyword_at (tok.Literal at) = Some at
keyword_at (tok.Main at) = Some at
keyword_at (tok.Not at) = Some at
keyword_at (tok.Or at) = Some at
keyword_at (tok.Proc at) = Some at
keyword_at (tok.Return at) = Some at
keyword_at (tok.Then at) = Some at
keyword_at (tok.To at) = Some at
keyword_at (tok.Until at) = Some at
keyword_at (tok.While at) = Some at
keyword_at _ = None

-- where a symbol or the end stands
abbrev pub symbol_at : Token → Option At
symbol_at (tok.Assign at) = Some at
symbol_at (tok.Differs at) = Some at
symbol_at (tok.AtMost at) = Some at
symbol_at (tok.AtLeast at) = Some at
symbol_at (tok.Less at) = Some at
symbol_at (tok.Greater at) = Some at
symbol_at (tok.Equal at) = Some at
symbol_at (tok.Plus at) = Some at
symbol_at (tok.Minus at) = Some at
symbol_at (tok.Star at) = Some at
symbol_at (tok.Slash at) = Some at
symbol_at (tok.Open at) = Some at
symbol_at (tok.Close at) = Some at
symbol_at (tok.OpenIndex at) = Some at
symbol_at (tok.CloseIndex at) = Some at
symbol_at (tok.Comma at) = Some at
symbol_at (tok.Semicolon at) = Some at
symbol_at (tok.Colon at) = Some at
symbol_at (tok.Finish at) = Some at
symbol_at _ = None

-- where a name, a number or a string stands
abbrev pub word_at : Token → Option At
word_at (tok.Name at name) = Some at
word_at (tok.Number at value) = Some at
word_at (tok.Process at name) = Some at
word_at (tok.Receive at) = Some at
word_at (tok.Text at) = Some at
word_at _ = None

-- the beginning of a text
abbrev pub beginning : At
beginning = record { place = record { line = 1; column = 1 }; start = 0; end = 0 }

-- where a token stands: each is a keyword, a symbol or one of the others
abbrev pub at_of : Token → At
at_of token = unwrap_or (option_or (option_or (keyword_at token) (symbol_at token)) (word_at token)) beginning

-- the line and column of a token's first byte
abbrev pub place_of : Token → Place
place_of token = (at_of token).place

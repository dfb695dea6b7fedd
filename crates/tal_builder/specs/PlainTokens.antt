-- The tokens that say no more than where they stand.
use Rattle.std.specs.Prelude.{List, [], ◌∷◌, Option, Some, None, option_map}
use Rattle.tal_tokens.specs.declared.token.At.{At}
use Rattle.tal_tokens.specs.declared.token.Token.{Token}
use Rattle.tal_tokens.specs.declared.token.Token.TheVariants as tok
use Rattle.tal_builder.specs.declared.plain_token.PlainToken.{PlainToken}
use Rattle.tal_builder.specs.declared.plain_token.PlainToken.TheVariants as plain

-- the token of a plain one
abbrev pub token_of_plain : PlainToken → At → Token
token_of_plain plain.And at = tok.And at
token_of_plain plain.Begin at = tok.Begin at
token_of_plain plain.By at = tok.By at
token_of_plain plain.Do at = tok.Do at
token_of_plain plain.Else at = tok.Else at
token_of_plain plain.End at = tok.End at
token_of_plain plain.Int at = tok.Int at
token_of_plain plain.Literal at = tok.Literal at
token_of_plain plain.Main at = tok.Main at
token_of_plain plain.Or at = tok.Or at
token_of_plain plain.Proc at = tok.Proc at
token_of_plain plain.Then at = tok.Then at
token_of_plain plain.Until at = tok.Until at
token_of_plain plain.Assign at = tok.Assign at
token_of_plain plain.Equal at = tok.Equal at
token_of_plain plain.Minus at = tok.Minus at
token_of_plain plain.Open at = tok.Open at
token_of_plain plain.Close at = tok.Close at
token_of_plain plain.OpenIndex at = tok.OpenIndex at
token_of_plain plain.CloseIndex at = tok.CloseIndex at
token_of_plain plain.Comma at = tok.Comma at
token_of_plain plain.Semicolon at = tok.Semicolon at
token_of_plain plain.Colon at = tok.Colon at
token_of_plain plain.Finish at = tok.Finish at

-- where a token that is the plain token stands
abbrev pub place_of : PlainToken → Token → Option At
place_of plain.And (tok.And at) = Some at
place_of plain.Begin (tok.Begin at) = Some at
place_of plain.By (tok.By at) = Some at
place_of plain.Do (tok.Do at) = Some at
place_of plain.Else (tok.Else at) = Some at
place_of plain.End (tok.End at) = Some at
place_of plain.Int (tok.Int at) = Some at
place_of plain.Literal (tok.Literal at) = Some at
place_of plain.Main (tok.Main at) = Some at
place_of plain.Or (tok.Or at) = Some at
place_of plain.Proc (tok.Proc at) = Some at
place_of plain.Then (tok.Then at) = Some at
place_of plain.Until (tok.Until at) = Some at
place_of plain.Assign (tok.Assign at) = Some at
place_of plain.Equal (tok.Equal at) = Some at
place_of plain.Minus (tok.Minus at) = Some at
place_of plain.Open (tok.Open at) = Some at
place_of plain.Close (tok.Close at) = Some at
place_of plain.OpenIndex (tok.OpenIndex at) = Some at
place_of plain.CloseIndex (tok.CloseIndex at) = Some at
place_of plain.Comma (tok.Comma at) = Some at
place_of plain.Semicolon (tok.Semicolon at) = Some at
place_of plain.Colon (tok.Colon at) = Some at
place_of plain.Finish (tok.Finish at) = Some at
place_of _ _ = None

-- where the plain token stands with which tokens begin, and the tokens after it
abbrev pub plain_of : PlainToken → List Token → Option (At × List Token)
plain_of m [] = None
plain_of m (k ∷ ks) = option_map (λ at. (at, ks)) (place_of m k)

-- What stands in the place of a symbol of expressions after a token, as far as the token may stand there.
use Rattle.std.specs.Prelude.{List, [], ◌∷◌, ◌++◌, Option, Some, None}
use Rattle.tal_tokens.specs.declared.token.Token.{Token}
use Rattle.tal_tokens.specs.declared.token.Token.TheVariants as tok
use Rattle.tal_recogniser.specs.declared.symbol.Symbol.{Symbol}
use Rattle.tal_recogniser.specs.declared.symbol.Symbol.TheVariants as sym

-- what is still to come, the next first
abbrev pub Stack : Type 0
Stack = List Symbol

-- an expression before what follows it
abbrev pub expr_on : Stack → Stack
expr_on ss = sym.Neg ∷ sym.AndTail ∷ sym.OrTail ∷ ss

-- a part that begins as another does, with more behind it
abbrev pub behind : Stack → Option Stack → Option Stack
behind ss None = None
behind ss (Some ts) = Some (ts ++ ss)

abbrev pub factor_step : Token → Option Stack
factor_step (tok.Minus at) = Some (sym.Factor ∷ sym.LevelEnd ∷ [])
factor_step (tok.Number at n) = Some []
factor_step (tok.Name at name) = Some (sym.IndexTail ∷ [])
factor_step (tok.Open at) = Some (expr_on (sym.WantClose ∷ sym.LevelEnd ∷ []))
factor_step _ = None

abbrev pub index_step : Token → Option Stack
index_step (tok.OpenIndex at) = Some (expr_on (sym.WantCloseIndex ∷ sym.LevelEnd ∷ []))
index_step _ = None

abbrev pub times_step : Token → Option Stack
times_step (tok.Star at) = Some (sym.Factor ∷ sym.TimesTail ∷ [])
times_step (tok.Slash at) = Some (sym.Factor ∷ sym.TimesTail ∷ [])
times_step _ = None

abbrev pub term_step : Token → Option Stack
term_step (tok.Plus at) = Some (sym.Factor ∷ sym.TimesTail ∷ sym.TermTail ∷ [])
term_step (tok.Minus at) = Some (sym.Factor ∷ sym.TimesTail ∷ sym.TermTail ∷ [])
term_step _ = None

-- one relation at most: no further one is looked for behind the second sum
abbrev pub rel_step : Token → Option Stack
rel_step (tok.Equal at) = Some (sym.Factor ∷ sym.TimesTail ∷ sym.TermTail ∷ [])
rel_step (tok.Differs at) = Some (sym.Factor ∷ sym.TimesTail ∷ sym.TermTail ∷ [])
rel_step (tok.Less at) = Some (sym.Factor ∷ sym.TimesTail ∷ sym.TermTail ∷ [])
rel_step (tok.AtMost at) = Some (sym.Factor ∷ sym.TimesTail ∷ sym.TermTail ∷ [])
rel_step (tok.Greater at) = Some (sym.Factor ∷ sym.TimesTail ∷ sym.TermTail ∷ [])
rel_step (tok.AtLeast at) = Some (sym.Factor ∷ sym.TimesTail ∷ sym.TermTail ∷ [])
rel_step _ = None

abbrev pub neg_step : Token → Option Stack
neg_step (tok.Not at) = Some (sym.Neg ∷ sym.LevelEnd ∷ [])
neg_step k = behind (sym.TimesTail ∷ sym.TermTail ∷ sym.RelTail ∷ []) (factor_step k)

abbrev pub and_step : Token → Option Stack
and_step (tok.And at) = Some (sym.Neg ∷ sym.AndTail ∷ [])
and_step _ = None

abbrev pub or_step : Token → Option Stack
or_step (tok.Or at) = Some (expr_on [])
or_step _ = None

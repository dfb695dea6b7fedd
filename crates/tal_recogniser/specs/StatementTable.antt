-- What stands in the place of a symbol of statements after a token, as far as the token may stand there.
use Rattle.std.specs.Prelude.{[], ◌∷◌, Option, Some, None}
use Rattle.tal_tokens.specs.declared.token.Token.{Token}
use Rattle.tal_tokens.specs.declared.token.Token.TheVariants as tok
use Rattle.tal_recogniser.specs.declared.symbol.Symbol.TheVariants as sym
use Rattle.tal_recogniser.specs.ExpressionTable.{Stack, expr_on, behind, neg_step}

abbrev pub argument_step : Token → Option Stack
argument_step (tok.Receive at) = Some []
argument_step (tok.Process at name) = Some []
argument_step (tok.Text at) = Some []
argument_step k = behind (sym.AndTail ∷ sym.OrTail ∷ []) (neg_step k)

abbrev pub further_step : Token → Option Stack
further_step (tok.Comma at) = Some (sym.Argument ∷ sym.FurtherTail ∷ [])
further_step _ = None

abbrev pub arguments_step : Token → Option Stack
arguments_step (tok.Open at) = Some (sym.Argument ∷ sym.FurtherTail ∷ sym.WantClose ∷ sym.LevelEnd ∷ [])
arguments_step _ = None

abbrev pub values_step : Token → Option Stack
values_step (tok.Comma at) = Some (expr_on (sym.ValuesTail ∷ []))
values_step _ = None

abbrev pub answer_step : Token → Option Stack
answer_step k = behind (sym.AndTail ∷ sym.OrTail ∷ []) (neg_step k)

-- what follows `:=`: a name may be a call's or begin an expression
abbrev pub right_step : Token → Option Stack
right_step (tok.Name at name) = Some (sym.RightTail ∷ [])
right_step k = behind (sym.AndTail ∷ sym.OrTail ∷ []) (neg_step k)

-- after that name: the list of a call, or what goes on with an expression
abbrev pub right_tail_step : Token → Option Stack
right_tail_step (tok.Open at) = Some (expr_on (sym.ValuesTail ∷ sym.WantClose ∷ sym.LevelEnd ∷ []))
right_tail_step (tok.OpenIndex at) =
    Some (expr_on (sym.WantCloseIndex ∷ sym.LevelEnd ∷ sym.TimesTail ∷ sym.TermTail ∷ sym.RelTail ∷ sym.AndTail
    ∷ sym.OrTail ∷ []))
right_tail_step (tok.Star at) =
    Some (sym.Factor ∷ sym.TimesTail ∷ sym.TermTail ∷ sym.RelTail ∷ sym.AndTail ∷ sym.OrTail ∷ [])
right_tail_step (tok.Slash at) =
    Some (sym.Factor ∷ sym.TimesTail ∷ sym.TermTail ∷ sym.RelTail ∷ sym.AndTail ∷ sym.OrTail ∷ [])
right_tail_step (tok.Plus at) =
    Some (sym.Factor ∷ sym.TimesTail ∷ sym.TermTail ∷ sym.RelTail ∷ sym.AndTail ∷ sym.OrTail ∷ [])
right_tail_step (tok.Minus at) =
    Some (sym.Factor ∷ sym.TimesTail ∷ sym.TermTail ∷ sym.RelTail ∷ sym.AndTail ∷ sym.OrTail ∷ [])
right_tail_step (tok.Equal at) = Some (sym.Factor ∷ sym.TimesTail ∷ sym.TermTail ∷ sym.AndTail ∷ sym.OrTail ∷ [])
right_tail_step (tok.Differs at) = Some (sym.Factor ∷ sym.TimesTail ∷ sym.TermTail ∷ sym.AndTail ∷ sym.OrTail ∷ [])
right_tail_step (tok.Less at) = Some (sym.Factor ∷ sym.TimesTail ∷ sym.TermTail ∷ sym.AndTail ∷ sym.OrTail ∷ [])
right_tail_step (tok.AtMost at) = Some (sym.Factor ∷ sym.TimesTail ∷ sym.TermTail ∷ sym.AndTail ∷ sym.OrTail ∷ [])
right_tail_step (tok.Greater at) = Some (sym.Factor ∷ sym.TimesTail ∷ sym.TermTail ∷ sym.AndTail ∷ sym.OrTail ∷ [])
right_tail_step (tok.AtLeast at) = Some (sym.Factor ∷ sym.TimesTail ∷ sym.TermTail ∷ sym.AndTail ∷ sym.OrTail ∷ [])
right_tail_step (tok.And at) = Some (expr_on [])
right_tail_step (tok.Or at) = Some (expr_on [])
right_tail_step _ = None

abbrev pub statement_step : Token → Option Stack
statement_step (tok.Begin at) = Some (sym.Statement ∷ sym.RowTail ∷ sym.WantEnd ∷ sym.LevelEnd ∷ [])
statement_step (tok.If at) = Some (expr_on (sym.WantThen ∷ sym.Statement ∷ sym.ElseTail ∷ sym.LevelEnd ∷ []))
statement_step (tok.While at) = Some (expr_on (sym.WantDo ∷ sym.Statement ∷ sym.LevelEnd ∷ []))
statement_step (tok.For at) =
    Some (sym.WantName ∷ sym.WantAssign ∷ expr_on
    (sym.Direction ∷ expr_on (sym.StepTail ∷ sym.WantDo ∷ sym.Statement ∷ sym.LevelEnd ∷ [])))
statement_step (tok.Do at) = Some (sym.Statement ∷ sym.WantUntil ∷ expr_on (sym.LevelEnd ∷ []))
statement_step (tok.Call at) = Some (sym.WantName ∷ sym.ArgumentsTail ∷ sym.LevelEnd ∷ [])
statement_step (tok.Return at) = Some (sym.Answer ∷ sym.LevelEnd ∷ [])
statement_step (tok.Name at name) = Some (sym.IndexTail ∷ sym.WantAssign ∷ sym.Right ∷ sym.LevelEnd ∷ [])
statement_step _ = None

abbrev pub direction_step : Token → Option Stack
direction_step (tok.To at) = Some []
direction_step (tok.DownTo at) = Some []
direction_step _ = None

abbrev pub step_step : Token → Option Stack
step_step (tok.By at) = Some (sym.Constant ∷ [])
step_step _ = None

-- the ELSE of the nearest IF, which stands on top
abbrev pub else_step : Token → Option Stack
else_step (tok.Else at) = Some (sym.Statement ∷ [])
else_step _ = None

abbrev pub row_step : Token → Option Stack
row_step (tok.Semicolon at) = Some (sym.Statement ∷ sym.RowTail ∷ [])
row_step _ = None

-- What stands in the place of a symbol of declarations after a token, as far as the token may stand there.
use Rattle.std.specs.Prelude.{[], ◌∷◌, Option, Some, None}
use Rattle.tal_tokens.specs.declared.token.Token.{Token}
use Rattle.tal_tokens.specs.declared.token.Token.TheVariants as tok
use Rattle.tal_recogniser.specs.declared.symbol.Symbol.TheVariants as sym
use Rattle.tal_recogniser.specs.ExpressionTable.{Stack}

-- a procedure after its PROC, and the procedures after it
abbrev pub procedure_on : Stack
procedure_on =
    sym.WantName ∷ sym.ParametersTail ∷ sym.MainTail ∷ sym.WantSemicolon ∷ sym.Locals ∷ sym.WantBegin ∷ sym.Locals
    ∷ sym.Statement ∷ sym.RowTail ∷ sym.WantEnd ∷ sym.WantSemicolon ∷ sym.Procedures ∷ []

abbrev pub lines_step : Token → Option Stack
lines_step (tok.Int at) = Some (sym.AfterInt ∷ [])
lines_step (tok.Literal at) =
    Some (sym.WantName ∷ sym.WantEqual ∷ sym.Constant ∷ sym.LiteralsTail ∷ sym.WantSemicolon ∷ sym.Lines ∷ [])
lines_step (tok.Proc at) = Some procedure_on
lines_step _ = None

-- after an INT before any procedure: an item, or the PROC of the first procedure
abbrev pub after_int_step : Token → Option Stack
after_int_step (tok.Name at name) = Some (sym.BoundsTail ∷ sym.ItemsTail ∷ sym.WantSemicolon ∷ sym.Lines ∷ [])
after_int_step (tok.Proc at) = Some procedure_on
after_int_step _ = None

abbrev pub procedures_step : Token → Option Stack
procedures_step (tok.Int at) = Some (sym.WantProc ∷ procedure_on)
procedures_step (tok.Proc at) = Some procedure_on
procedures_step _ = None

abbrev pub bounds_step : Token → Option Stack
bounds_step (tok.OpenIndex at) = Some (sym.Constant ∷ sym.WantColon ∷ sym.Constant ∷ sym.WantCloseIndex ∷ [])
bounds_step _ = None

abbrev pub items_step : Token → Option Stack
items_step (tok.Comma at) = Some (sym.WantName ∷ sym.BoundsTail ∷ sym.ItemsTail ∷ [])
items_step _ = None

abbrev pub atom_step : Token → Option Stack
atom_step (tok.Number at n) = Some []
atom_step (tok.Name at name) = Some []
atom_step _ = None

abbrev pub constant_step : Token → Option Stack
constant_step (tok.Minus at) = Some (sym.Atom ∷ [])
constant_step (tok.Number at n) = Some []
constant_step (tok.Name at name) = Some []
constant_step _ = None

abbrev pub literals_step : Token → Option Stack
literals_step (tok.Comma at) = Some (sym.WantName ∷ sym.WantEqual ∷ sym.Constant ∷ sym.LiteralsTail ∷ [])
literals_step _ = None

abbrev pub parameters_step : Token → Option Stack
parameters_step (tok.Open at) = Some (sym.WantName ∷ sym.NamesTail ∷ sym.WantClose ∷ [])
parameters_step _ = None

abbrev pub names_step : Token → Option Stack
names_step (tok.Comma at) = Some (sym.WantName ∷ sym.NamesTail ∷ [])
names_step _ = None

abbrev pub main_step : Token → Option Stack
main_step (tok.Main at) = Some []
main_step _ = None

abbrev pub locals_step : Token → Option Stack
locals_step (tok.Int at) = Some (sym.WantName ∷ sym.NamesTail ∷ sym.WantSemicolon ∷ sym.Locals ∷ [])
locals_step _ = None

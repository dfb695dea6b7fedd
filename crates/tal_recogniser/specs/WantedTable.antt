-- The tokens that are wanted: each is taken by its own symbol.
use Rattle.std.specs.Prelude.{[], Option, Some, None}
use Rattle.tal_tokens.specs.declared.token.Token.{Token}
use Rattle.tal_tokens.specs.declared.token.Token.TheVariants as tok
use Rattle.tal_recogniser.specs.declared.symbol.Symbol.{Symbol}
use Rattle.tal_recogniser.specs.declared.symbol.Symbol.TheVariants as sym
use Rattle.tal_recogniser.specs.ExpressionTable.{Stack}

abbrev pub name_step : Token → Option Stack
name_step (tok.Name at name) = Some []
name_step _ = None

abbrev pub begin_step : Token → Option Stack
begin_step (tok.Begin at) = Some []
begin_step _ = None

abbrev pub end_step : Token → Option Stack
end_step (tok.End at) = Some []
end_step _ = None

abbrev pub then_step : Token → Option Stack
then_step (tok.Then at) = Some []
then_step _ = None

abbrev pub do_step : Token → Option Stack
do_step (tok.Do at) = Some []
do_step _ = None

abbrev pub until_step : Token → Option Stack
until_step (tok.Until at) = Some []
until_step _ = None

abbrev pub proc_step : Token → Option Stack
proc_step (tok.Proc at) = Some []
proc_step _ = None

abbrev pub assign_step : Token → Option Stack
assign_step (tok.Assign at) = Some []
assign_step _ = None

abbrev pub equal_step : Token → Option Stack
equal_step (tok.Equal at) = Some []
equal_step _ = None

abbrev pub close_step : Token → Option Stack
close_step (tok.Close at) = Some []
close_step _ = None

abbrev pub close_index_step : Token → Option Stack
close_index_step (tok.CloseIndex at) = Some []
close_index_step _ = None

abbrev pub semicolon_step : Token → Option Stack
semicolon_step (tok.Semicolon at) = Some []
semicolon_step _ = None

abbrev pub colon_step : Token → Option Stack
colon_step (tok.Colon at) = Some []
colon_step _ = None

abbrev pub finish_step : Token → Option Stack
finish_step (tok.Finish at) = Some []
finish_step _ = None

abbrev pub wanted_step : Symbol → Token → Option Stack
wanted_step sym.WantName k = name_step k
wanted_step sym.WantBegin k = begin_step k
wanted_step sym.WantEnd k = end_step k
wanted_step sym.WantThen k = then_step k
wanted_step sym.WantDo k = do_step k
wanted_step sym.WantUntil k = until_step k
wanted_step sym.WantProc k = proc_step k
wanted_step sym.WantAssign k = assign_step k
wanted_step sym.WantEqual k = equal_step k
wanted_step sym.WantClose k = close_step k
wanted_step sym.WantCloseIndex k = close_index_step k
wanted_step sym.WantSemicolon k = semicolon_step k
wanted_step sym.WantColon k = colon_step k
wanted_step sym.WantFinish k = finish_step k
wanted_step _ k = None

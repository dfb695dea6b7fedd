-- The machine that reads tokens with a stack of what is still to come.
use Rattle.std.specs.Prelude.{ℕ, suc, Bool, true, false, List, [], ◌∷◌, ◌++◌, Option, Some, None}
use Rattle.tal_tokens.specs.declared.token.Token.{Token}
use Rattle.tal_recogniser.specs.declared.symbol.Symbol.{Symbol}
use Rattle.tal_recogniser.specs.declared.symbol.Symbol.TheVariants as sym
use Rattle.tal_recogniser.specs.ExpressionTable.{Stack, factor_step, index_step, times_step, term_step, rel_step}
use Rattle.tal_recogniser.specs.ExpressionTable.{neg_step, and_step, or_step}
use Rattle.tal_recogniser.specs.StatementTable.{argument_step, further_step, arguments_step, values_step, answer_step}
use Rattle.tal_recogniser.specs.StatementTable.{right_step, right_tail_step, statement_step, else_step, row_step}
use Rattle.tal_recogniser.specs.StatementTable.{direction_step, step_step}
use Rattle.tal_recogniser.specs.DeclarationTable.{lines_step, after_int_step, procedures_step, bounds_step, items_step}
use Rattle.tal_recogniser.specs.DeclarationTable.{atom_step, constant_step, literals_step, parameters_step, names_step}
use Rattle.tal_recogniser.specs.DeclarationTable.{main_step, locals_step}
use Rattle.tal_recogniser.specs.WantedTable.{wanted_step}

-- what stands in a symbol's place after a token
abbrev pub step : Symbol → Token → Option Stack
step sym.LevelEnd k = None
step sym.Neg k = neg_step k
step sym.OrTail k = or_step k
step sym.AndTail k = and_step k
step sym.RelTail k = rel_step k
step sym.TermTail k = term_step k
step sym.TimesTail k = times_step k
step sym.Factor k = factor_step k
step sym.IndexTail k = index_step k
step sym.Statement k = statement_step k
step sym.RowTail k = row_step k
step sym.ElseTail k = else_step k
step sym.Direction k = direction_step k
step sym.StepTail k = step_step k
step sym.Right k = right_step k
step sym.RightTail k = right_tail_step k
step sym.Answer k = answer_step k
step sym.Argument k = argument_step k
step sym.ArgumentsTail k = arguments_step k
step sym.FurtherTail k = further_step k
step sym.ValuesTail k = values_step k
step sym.Lines k = lines_step k
step sym.AfterInt k = after_int_step k
step sym.Procedures k = procedures_step k
step sym.BoundsTail k = bounds_step k
step sym.ItemsTail k = items_step k
step sym.Constant k = constant_step k
step sym.Atom k = atom_step k
step sym.LiteralsTail k = literals_step k
step sym.ParametersTail k = parameters_step k
step sym.NamesTail k = names_step k
step sym.MainTail k = main_step k
step sym.Locals k = locals_step k
step s k = wanted_step s k

-- what needs no token
abbrev pub vanishes : Symbol → Bool
vanishes sym.LevelEnd = true
vanishes sym.OrTail = true
vanishes sym.AndTail = true
vanishes sym.RelTail = true
vanishes sym.TermTail = true
vanishes sym.TimesTail = true
vanishes sym.IndexTail = true
vanishes sym.Statement = true
vanishes sym.RowTail = true
vanishes sym.ElseTail = true
vanishes sym.StepTail = true
vanishes sym.RightTail = true
vanishes sym.Answer = true
vanishes sym.ArgumentsTail = true
vanishes sym.FurtherTail = true
vanishes sym.ValuesTail = true
vanishes sym.Lines = true
vanishes sym.Procedures = true
vanishes sym.BoundsTail = true
vanishes sym.ItemsTail = true
vanishes sym.LiteralsTail = true
vanishes sym.ParametersTail = true
vanishes sym.NamesTail = true
vanishes sym.MainTail = true
vanishes sym.Locals = true
vanishes _ = false

abbrev pub fed_by : Option Stack → Bool → Stack → Option Stack → Option Stack
fed_by (Some ts) v ss later = Some (ts ++ ss)
fed_by None true ss later = later
fed_by None false ss later = None

-- what is still to come after a token: the topmost symbol takes it, or gives way where it needs no token
abbrev pub feed : Token → Stack → Option Stack
feed k [] = None
feed k (s ∷ ss) = fed_by (step s k) (vanishes s) ss (feed k ss)

-- how many levels stand open
abbrev pub open_levels : Stack → ℕ
open_levels [] = 0
open_levels (sym.LevelEnd ∷ ss) = suc (open_levels ss)
open_levels (s ∷ ss) = open_levels ss

-- what is still to come after tokens, and the levels that stand open after each
abbrev pub Trace : Type 0
Trace = Option Stack × List ℕ

abbrev pub over : (List ℕ → List ℕ) → Trace → Trace
over f t = (t.0, f t.1)

abbrev pub noted : Option Stack → (Stack → Trace) → Trace
noted None go = (None, [])
noted (Some ts) go = over (λ ls. open_levels ts ∷ ls) (go ts)

abbrev pub trace : Stack → List Token → Trace
trace ss [] = (Some ss, [])
trace ss (k ∷ ks) = noted (feed k ss) (λ ts. trace ts ks)

-- a whole text is to come
abbrev pub start : Stack
start = sym.Lines ∷ sym.WantFinish ∷ []

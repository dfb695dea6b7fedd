-- What the symbols of the machine stand for: a part of the grammar, or what is left of one after its first token.
use Rattle.std.proofs.Common.{◌≡◌, ℕ, Bool, true, false, List, [], ◌∷◌, ◌++◌, Option, Some, None, refl}
use Rattle.std.specs.Prelude.{pos, zero}
use Rattle.tal_tokens.specs.declared.token.At.{At}
use Rattle.tal_tokens.specs.declared.token.Token.{Token}
use Rattle.tal_tokens.specs.declared.token.Token.TheVariants as tok
use Rattle.tal_syntax.specs.Grammar as g
use Rattle.tal_recogniser.specs.declared.symbol.Symbol.{Symbol}
use Rattle.tal_recogniser.specs.declared.symbol.Symbol.TheVariants as sym
use Rattle.tal_recogniser.specs.ExpressionTable.{Stack}
use Rattle.tal_recogniser.specs.Machine.{vanishes}

-- the right side of an assignment
pub data Right : Type 0 where
  shown : g.Expr → Right
  called : At → List ℕ → At → g.Expr → g.Values → At → Right

abbrev pub of_right : Right → List Token → List Token
of_right (shown e) ks = g.of_expr e ks
of_right (called at name start first more close) ks =
    tok.Name at name ∷ tok.Open start ∷ g.of_expr first (g.of_values more (tok.Close close ∷ ks))

-- a right side after the name that it begins with
pub data RightRest : Type 0 where
  listed : At → g.Expr → g.Values → At → RightRest
  going : g.Index → g.Factors → g.Terms → g.Compared → g.Ands → g.Ors → RightRest

abbrev pub of_right_rest : RightRest → List Token → List Token
of_right_rest (listed start first more close) ks =
    tok.Open start ∷ g.of_expr first (g.of_values more (tok.Close close ∷ ks))
of_right_rest (going i fs ts c ns os) ks =
    g.of_index i (g.of_factors fs (g.of_terms ts (g.of_compared c (g.of_ands ns (g.of_ors os ks)))))

abbrev pub NearStatement : Type 0
NearStatement = (s : g.Statement) × g.IsNearest s

abbrev pub IsNearestAfter : g.Otherwise → Type 0
IsNearestAfter g.no_else = Unit {0}
IsNearestAfter (g.otherwise at s) = g.IsNearest s

abbrev pub NearProcedures : Type 0
NearProcedures = (ps : g.Procedures) × g.IsNearestIn ps

-- what follows an INT before any procedure: a line of items after it, or procedures of which the first may have an INT
pub data AfterInt : Type 0 where
  listing : At → List ℕ → g.Bounds → g.Items → At → g.Lines → NearProcedures → AfterInt
  proceeding : (from : g.Gives → NearProcedures)
      → ((at : At) (ks : List Token) → g.of_procedures (from (g.gives_int at)).0 ks
      ≡ tok.Int at ∷ g.of_procedures (from g.gives_nothing).0 ks) → AfterInt

abbrev pub of_after_int : AfterInt → List Token → List Token
of_after_int (listing at name b more end ls ps) ks =
    tok.Name at name ∷ g.of_bounds b (g.of_items more (tok.Semicolon end ∷ g.of_lines ls (g.of_procedures ps.0 ks)))
of_after_int (proceeding from e) ks = g.of_procedures (from g.gives_nothing).0 ks

abbrev pub Thing : Symbol → Type 0
Thing sym.LevelEnd = Unit {0}
Thing sym.Neg = g.Neg
Thing sym.OrTail = g.Ors
Thing sym.AndTail = g.Ands
Thing sym.RelTail = g.Compared
Thing sym.TermTail = g.Terms
Thing sym.TimesTail = g.Factors
Thing sym.Factor = g.Factor
Thing sym.IndexTail = g.Index
Thing sym.Statement = NearStatement
Thing sym.RowTail = (r : g.Row) × g.IsNearestRow r
Thing sym.ElseTail = (o : g.Otherwise) × IsNearestAfter o
Thing sym.Direction = g.Direction
Thing sym.StepTail = g.Step
Thing sym.Right = Right
Thing sym.RightTail = RightRest
Thing sym.Answer = g.Answer
Thing sym.Argument = g.Argument
Thing sym.ArgumentsTail = g.Arguments
Thing sym.FurtherTail = g.Further
Thing sym.ValuesTail = g.Values
Thing sym.Lines = g.Lines × NearProcedures
Thing sym.AfterInt = AfterInt
Thing sym.Procedures = NearProcedures
Thing sym.BoundsTail = g.Bounds
Thing sym.ItemsTail = g.Items
Thing sym.Constant = g.Constant
Thing sym.Atom = g.Atom
Thing sym.LiteralsTail = g.Literals
Thing sym.ParametersTail = g.Parameters
Thing sym.NamesTail = g.Names
Thing sym.MainTail = g.Main
Thing sym.Locals = g.Locals
Thing sym.WantName = At × List ℕ
Thing sym.WantBegin = At
Thing sym.WantEnd = At
Thing sym.WantThen = At
Thing sym.WantDo = At
Thing sym.WantUntil = At
Thing sym.WantProc = At
Thing sym.WantAssign = At
Thing sym.WantEqual = At
Thing sym.WantClose = At
Thing sym.WantCloseIndex = At
Thing sym.WantSemicolon = At
Thing sym.WantColon = At
Thing sym.WantFinish = At

abbrev pub of_thing : (s : Symbol) → Thing s → List Token → List Token
of_thing sym.LevelEnd x ks = ks
of_thing sym.Neg x ks = g.of_neg x ks
of_thing sym.OrTail x ks = g.of_ors x ks
of_thing sym.AndTail x ks = g.of_ands x ks
of_thing sym.RelTail x ks = g.of_compared x ks
of_thing sym.TermTail x ks = g.of_terms x ks
of_thing sym.TimesTail x ks = g.of_factors x ks
of_thing sym.Factor x ks = g.of_factor x ks
of_thing sym.IndexTail x ks = g.of_index x ks
of_thing sym.Statement x ks = g.of_statement x.0 ks
of_thing sym.RowTail x ks = g.of_row x.0 ks
of_thing sym.ElseTail x ks = g.of_otherwise x.0 ks
of_thing sym.Direction x ks = g.of_direction x ∷ ks
of_thing sym.StepTail x ks = g.of_step x ks
of_thing sym.Right x ks = of_right x ks
of_thing sym.RightTail x ks = of_right_rest x ks
of_thing sym.Answer x ks = g.of_answer x ks
of_thing sym.Argument x ks = g.of_argument x ks
of_thing sym.ArgumentsTail x ks = g.of_arguments x ks
of_thing sym.FurtherTail x ks = g.of_further x ks
of_thing sym.ValuesTail x ks = g.of_values x ks
of_thing sym.Lines x ks = g.of_lines x.0 (g.of_procedures x.1.0 ks)
of_thing sym.AfterInt x ks = of_after_int x ks
of_thing sym.Procedures x ks = g.of_procedures x.0 ks
of_thing sym.BoundsTail x ks = g.of_bounds x ks
of_thing sym.ItemsTail x ks = g.of_items x ks
of_thing sym.Constant x ks = g.of_constant x ks
of_thing sym.Atom x ks = g.of_atom x ks
of_thing sym.LiteralsTail x ks = g.of_literals x ks
of_thing sym.ParametersTail x ks = g.of_parameters x ks
of_thing sym.NamesTail x ks = g.of_names x ks
of_thing sym.MainTail x ks = g.of_main x ks
of_thing sym.Locals x ks = g.of_locals x ks
of_thing sym.WantName x ks = tok.Name x.0 x.1 ∷ ks
of_thing sym.WantBegin x ks = tok.Begin x ∷ ks
of_thing sym.WantEnd x ks = tok.End x ∷ ks
of_thing sym.WantThen x ks = tok.Then x ∷ ks
of_thing sym.WantDo x ks = tok.Do x ∷ ks
of_thing sym.WantUntil x ks = tok.Until x ∷ ks
of_thing sym.WantProc x ks = tok.Proc x ∷ ks
of_thing sym.WantAssign x ks = tok.Assign x ∷ ks
of_thing sym.WantEqual x ks = tok.Equal x ∷ ks
of_thing sym.WantClose x ks = tok.Close x ∷ ks
of_thing sym.WantCloseIndex x ks = tok.CloseIndex x ∷ ks
of_thing sym.WantSemicolon x ks = tok.Semicolon x ∷ ks
of_thing sym.WantColon x ks = tok.Colon x ∷ ks
of_thing sym.WantFinish x ks = tok.Finish x ∷ ks

abbrev pub Things : Stack → Type 0
Things [] = Unit {0}
Things (s ∷ ss) = Thing s × Things ss

abbrev pub of_things : (ss : Stack) → Things ss → List Token
of_things [] x = []
of_things (s ∷ ss) x = of_thing s x.0 (of_things ss x.1)

-- the tokens are those of things that the stack stands for
abbrev pub Made : Stack → List Token → Type 0
Made ss ks = (x : Things ss) × (of_things ss x ≡ ks)

-- the end isn't among these symbols
abbrev pub NoFinish : Stack → Type 0
NoFinish [] = Unit {0}
NoFinish (sym.WantFinish ∷ ss) = ⊥
NoFinish (s ∷ ss) = NoFinish ss

-- what stands in a symbol's place after a token makes, with that token, what the symbol stands for
abbrev pub Steps : Symbol → Token → Stack → Option Stack → Type 0
Steps s k ss None = Unit {0}
Steps s k ss (Some ts) = NoFinish ts × ((x : Things (ts ++ ss)) → Made (s ∷ ss) (k ∷ of_things (ts ++ ss) x))

nowhere : At
nowhere = record { place = record { line = 0; column = 0 }; start = 0; end = 0 }

a_factor : g.Factor
a_factor = g.number nowhere (pos zero)

a_neg : g.Neg
a_neg = g.relation (g.sum (g.product a_factor g.no_factors) g.no_terms) g.alone

-- a thing for each symbol, the empty one where it needs no token
pub closing : (s : Symbol) → Thing s
closing sym.LevelEnd = tt
closing sym.Neg = a_neg
closing sym.OrTail = g.no_ors
closing sym.AndTail = g.no_ands
closing sym.RelTail = g.alone
closing sym.TermTail = g.no_terms
closing sym.TimesTail = g.no_factors
closing sym.Factor = a_factor
closing sym.IndexTail = g.no_index
closing sym.Statement = (g.nothing, tt)
closing sym.RowTail = (g.no_row, tt)
closing sym.ElseTail = (g.no_else, tt)
closing sym.Direction = g.up nowhere
closing sym.StepTail = g.step_one
closing sym.Right = shown (g.expr (g.both a_neg g.no_ands) g.no_ors)
closing sym.RightTail = going g.no_index g.no_factors g.no_terms g.alone g.no_ands g.no_ors
closing sym.Answer = g.no_answer
closing sym.Argument = g.quoted nowhere
closing sym.ArgumentsTail = g.unlisted
closing sym.FurtherTail = g.no_further
closing sym.ValuesTail = g.no_values
closing sym.Lines = (g.no_lines, (g.no_procedures, tt))
closing sym.AfterInt = listing nowhere [] g.unbounded g.no_items nowhere g.no_lines (g.no_procedures, tt)
closing sym.Procedures = (g.no_procedures, tt)
closing sym.BoundsTail = g.unbounded
closing sym.ItemsTail = g.no_items
closing sym.Constant = g.positive (g.digits nowhere (pos zero))
closing sym.Atom = g.digits nowhere (pos zero)
closing sym.LiteralsTail = g.no_literals
closing sym.ParametersTail = g.no_parameters
closing sym.NamesTail = g.no_names
closing sym.MainTail = g.not_main
closing sym.Locals = g.no_locals
closing sym.WantName = (nowhere, [])
closing sym.WantBegin = nowhere
closing sym.WantEnd = nowhere
closing sym.WantThen = nowhere
closing sym.WantDo = nowhere
closing sym.WantUntil = nowhere
closing sym.WantProc = nowhere
closing sym.WantAssign = nowhere
closing sym.WantEqual = nowhere
closing sym.WantClose = nowhere
closing sym.WantCloseIndex = nowhere
closing sym.WantSemicolon = nowhere
closing sym.WantColon = nowhere
closing sym.WantFinish = nowhere

pub closings : (ss : Stack) → Things ss
closings [] = tt
closings (s ∷ ss) = (closing s, closings ss)

abbrev pub IsGone : Bool → Type 0
IsGone true = Unit {0}
IsGone false = ⊥

-- what needs no token is closed by none
pub closed : (s : Symbol) → IsGone (vanishes s) → (ks : List Token) → of_thing s (closing s) ks ≡ ks
unfolding closing
closed sym.LevelEnd v ks = refl
closed sym.OrTail v ks = refl
closed sym.AndTail v ks = refl
closed sym.RelTail v ks = refl
closed sym.TermTail v ks = refl
closed sym.TimesTail v ks = refl
closed sym.IndexTail v ks = refl
closed sym.Statement v ks = refl
closed sym.RowTail v ks = refl
closed sym.ElseTail v ks = refl
closed sym.StepTail v ks = refl
closed sym.RightTail v ks = refl
closed sym.Answer v ks = refl
closed sym.ArgumentsTail v ks = refl
closed sym.FurtherTail v ks = refl
closed sym.ValuesTail v ks = refl
closed sym.Lines v ks = refl
closed sym.Procedures v ks = refl
closed sym.BoundsTail v ks = refl
closed sym.ItemsTail v ks = refl
closed sym.LiteralsTail v ks = refl
closed sym.ParametersTail v ks = refl
closed sym.NamesTail v ks = refl
closed sym.MainTail v ks = refl
closed sym.Locals v ks = refl
closed s v ks = absurd v

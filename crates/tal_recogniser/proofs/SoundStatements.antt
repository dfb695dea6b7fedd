-- Each row of the table of statements makes what its symbol stands for.
use Rattle.std.proofs.Common.{List, ◌∷◌, refl}
use Rattle.tal_tokens.specs.declared.token.Token.{Token}
use Rattle.tal_tokens.specs.declared.token.Token.TheVariants as tok
use Rattle.tal_syntax.specs.Grammar as g
use Rattle.tal_recogniser.specs.declared.symbol.Symbol.TheVariants as sym
use Rattle.tal_recogniser.specs.ExpressionTable.{Stack, expr_on}
use Rattle.tal_recogniser.specs.StatementTable.{argument_step, further_step, arguments_step, values_step, answer_step}
use Rattle.tal_recogniser.specs.StatementTable.{right_step, right_tail_step, statement_step, else_step, row_step}
use Rattle.tal_recogniser.specs.StatementTable.{direction_step, step_step}
use Rattle.tal_recogniser.proofs.Things.{Made, Steps, Things, of_things, shown, called, listed, going}
use Rattle.tal_recogniser.proofs.Attached.{attached}
use Rattle.tal_recogniser.proofs.SoundExpressions.{sound-neg}

abbrev tails_on : Stack → Stack
tails_on ss = sym.AndTail ∷ sym.OrTail ∷ ss

as_argument : (ss : Stack) (ks : List Token) → Made (expr_on ss) ks → Made (sym.Argument ∷ ss) ks
as_argument ss ks m = ((g.value (g.expr (g.both m.0.0 m.0.1.0) m.0.1.1.0), m.0.1.1.1), m.1)

pub sound-argument : (k : Token) (ss : Stack) → Steps sym.Argument k ss (argument_step k)
sound-argument (tok.Receive at) ss = (tt, λ x. ((g.receive at, x), refl))
sound-argument (tok.Process at name) ss = (tt, λ x. ((g.process at name, x), refl))
sound-argument (tok.Text at) ss = (tt, λ x. ((g.quoted at, x), refl))
sound-argument (tok.Not at) ss = (tt, λ x. as_argument ss _ ((sound-neg (tok.Not at) (tails_on ss)).1 x))
sound-argument (tok.Minus at) ss = (tt, λ x. as_argument ss _ ((sound-neg (tok.Minus at) (tails_on ss)).1 x))
sound-argument (tok.Number at n) ss = (tt, λ x. as_argument ss _ ((sound-neg (tok.Number at n) (tails_on ss)).1 x))
sound-argument (tok.Name at name) ss = (tt, λ x. as_argument ss _ ((sound-neg (tok.Name at name) (tails_on ss)).1 x))
sound-argument (tok.Open at) ss = (tt, λ x. as_argument ss _ ((sound-neg (tok.Open at) (tails_on ss)).1 x))
sound-argument _ ss = tt

pub sound-further : (k : Token) (ss : Stack) → Steps sym.FurtherTail k ss (further_step k)
sound-further (tok.Comma at) ss = (tt, λ x. ((g.more_further at x.0 x.1.0, x.1.1), refl))
sound-further _ ss = tt

pub sound-arguments : (k : Token) (ss : Stack) → Steps sym.ArgumentsTail k ss (arguments_step k)
sound-arguments (tok.Open at) ss = (tt, λ x. ((g.listed at x.0 x.1.0 x.1.1.0, x.1.1.1.1), refl))
sound-arguments _ ss = tt

pub sound-values : (k : Token) (ss : Stack) → Steps sym.ValuesTail k ss (values_step k)
sound-values (tok.Comma at) ss =
    (tt, λ x. ((g.more_values at (g.expr (g.both x.0 x.1.0) x.1.1.0) x.1.1.1.0, x.1.1.1.1), refl))
sound-values _ ss = tt

as_answer : (ss : Stack) (ks : List Token) → Made (expr_on ss) ks → Made (sym.Answer ∷ ss) ks
as_answer ss ks m = ((g.answer (g.expr (g.both m.0.0 m.0.1.0) m.0.1.1.0), m.0.1.1.1), m.1)

pub sound-answer : (k : Token) (ss : Stack) → Steps sym.Answer k ss (answer_step k)
sound-answer (tok.Not at) ss = (tt, λ x. as_answer ss _ ((sound-neg (tok.Not at) (tails_on ss)).1 x))
sound-answer (tok.Minus at) ss = (tt, λ x. as_answer ss _ ((sound-neg (tok.Minus at) (tails_on ss)).1 x))
sound-answer (tok.Number at n) ss = (tt, λ x. as_answer ss _ ((sound-neg (tok.Number at n) (tails_on ss)).1 x))
sound-answer (tok.Name at name) ss = (tt, λ x. as_answer ss _ ((sound-neg (tok.Name at name) (tails_on ss)).1 x))
sound-answer (tok.Open at) ss = (tt, λ x. as_answer ss _ ((sound-neg (tok.Open at) (tails_on ss)).1 x))
sound-answer _ ss = tt

as_right : (ss : Stack) (ks : List Token) → Made (expr_on ss) ks → Made (sym.Right ∷ ss) ks
as_right ss ks m = ((shown (g.expr (g.both m.0.0 m.0.1.0) m.0.1.1.0), m.0.1.1.1), m.1)

-- a right side that begins with a name
named : (at : _) (name : _) (ss : Stack) (x : Things (sym.RightTail ∷ ss))
    → Made (sym.Right ∷ ss) (tok.Name at name ∷ of_things (sym.RightTail ∷ ss) x)
named at name ss (listed start first more close, rest) = ((called at name start first more close, rest), refl)
named at name ss (going i fs ts c ns os, rest) =
    ((shown (g.expr (g.both (g.relation (g.sum (g.product (g.read (g.spot at name i)) fs) ts) c) ns) os), rest), refl)

pub sound-right : (k : Token) (ss : Stack) → Steps sym.Right k ss (right_step k)
sound-right (tok.Name at name) ss = (tt, named at name ss)
sound-right (tok.Not at) ss = (tt, λ x. as_right ss _ ((sound-neg (tok.Not at) (tails_on ss)).1 x))
sound-right (tok.Minus at) ss = (tt, λ x. as_right ss _ ((sound-neg (tok.Minus at) (tails_on ss)).1 x))
sound-right (tok.Number at n) ss = (tt, λ x. as_right ss _ ((sound-neg (tok.Number at n) (tails_on ss)).1 x))
sound-right (tok.Open at) ss = (tt, λ x. as_right ss _ ((sound-neg (tok.Open at) (tails_on ss)).1 x))
sound-right _ ss = tt

pub sound-right-tail : (k : Token) (ss : Stack) → Steps sym.RightTail k ss (right_tail_step k)
sound-right-tail (tok.Open at) ss =
    (tt, λ x. ((listed at (g.expr (g.both x.0 x.1.0) x.1.1.0) x.1.1.1.0 x.1.1.1.1.0, x.1.1.1.1.1.1), refl))
sound-right-tail (tok.OpenIndex at) ss = (
  tt,
  λ x. (
    (
      going (g.index at (g.expr (g.both x.0 x.1.0) x.1.1.0) x.1.1.1.0) x.1.1.1.1.1.0 x.1.1.1.1.1.1.0
          x.1.1.1.1.1.1.1.0 x.1.1.1.1.1.1.1.1.0 x.1.1.1.1.1.1.1.1.1.0,
      x.1.1.1.1.1.1.1.1.1.1,
    ),
    refl,
  ),
)
sound-right-tail (tok.Star at) ss = (
  tt,
  λ x. (
    (
      going g.no_index (g.more_factors (g.times at) x.0 x.1.0) x.1.1.0 x.1.1.1.0 x.1.1.1.1.0 x.1.1.1.1.1.0,
      x.1.1.1.1.1.1,
    ),
    refl,
  ),
)
sound-right-tail (tok.Slash at) ss = (
  tt,
  λ x. (
    (
      going g.no_index (g.more_factors (g.over at) x.0 x.1.0) x.1.1.0 x.1.1.1.0 x.1.1.1.1.0 x.1.1.1.1.1.0,
      x.1.1.1.1.1.1,
    ),
    refl,
  ),
)
sound-right-tail (tok.Plus at) ss = (
  tt,
  λ x. (
    (
      going g.no_index g.no_factors (g.more_terms (g.plus at) (g.product x.0 x.1.0) x.1.1.0) x.1.1.1.0 x.1.1.1.1.0
          x.1.1.1.1.1.0,
      x.1.1.1.1.1.1,
    ),
    refl,
  ),
)
sound-right-tail (tok.Minus at) ss = (
  tt,
  λ x. (
    (
      going g.no_index g.no_factors (g.more_terms (g.dash at) (g.product x.0 x.1.0) x.1.1.0) x.1.1.1.0 x.1.1.1.1.0
          x.1.1.1.1.1.0,
      x.1.1.1.1.1.1,
    ),
    refl,
  ),
)
sound-right-tail (tok.Equal at) ss = (
  tt,
  λ x. (
    (
      going g.no_index g.no_factors g.no_terms (g.compared (g.equal at) (g.sum (g.product x.0 x.1.0) x.1.1.0))
          x.1.1.1.0 x.1.1.1.1.0,
      x.1.1.1.1.1,
    ),
    refl,
  ),
)
sound-right-tail (tok.Differs at) ss = (
  tt,
  λ x. (
    (
      going g.no_index g.no_factors g.no_terms (g.compared (g.differs at) (g.sum (g.product x.0 x.1.0) x.1.1.0))
          x.1.1.1.0 x.1.1.1.1.0,
      x.1.1.1.1.1,
    ),
    refl,
  ),
)
sound-right-tail (tok.Less at) ss = (
  tt,
  λ x. (
    (
      going g.no_index g.no_factors g.no_terms (g.compared (g.less at) (g.sum (g.product x.0 x.1.0) x.1.1.0))
          x.1.1.1.0 x.1.1.1.1.0,
      x.1.1.1.1.1,
    ),
    refl,
  ),
)
sound-right-tail (tok.AtMost at) ss = (
  tt,
  λ x. (
    (
      going g.no_index g.no_factors g.no_terms (g.compared (g.at_most at) (g.sum (g.product x.0 x.1.0) x.1.1.0))
          x.1.1.1.0 x.1.1.1.1.0,
      x.1.1.1.1.1,
    ),
    refl,
  ),
)
sound-right-tail (tok.Greater at) ss = (
  tt,
  λ x. (
    (
      going g.no_index g.no_factors g.no_terms (g.compared (g.greater at) (g.sum (g.product x.0 x.1.0) x.1.1.0))
          x.1.1.1.0 x.1.1.1.1.0,
      x.1.1.1.1.1,
    ),
    refl,
  ),
)
sound-right-tail (tok.AtLeast at) ss = (
  tt,
  λ x. (
    (
      going g.no_index g.no_factors g.no_terms (g.compared (g.at_least at) (g.sum (g.product x.0 x.1.0) x.1.1.0))
          x.1.1.1.0 x.1.1.1.1.0,
      x.1.1.1.1.1,
    ),
    refl,
  ),
)
sound-right-tail (tok.And at) ss =
    (tt, λ x. ((going g.no_index g.no_factors g.no_terms g.alone (g.more_ands at x.0 x.1.0) x.1.1.0, x.1.1.1), refl))
sound-right-tail (tok.Or at) ss = (
  tt,
  λ x. (
    (going g.no_index g.no_factors g.no_terms g.alone g.no_ands (g.more_ors at (g.both x.0 x.1.0) x.1.1.0), x.1.1.1),
    refl,
  ),
)
sound-right-tail _ ss = tt

-- an assignment, of a value or of what a call gives
assigned : (at : _) (name : _) (ss : Stack)
    (x : Things (sym.IndexTail ∷ sym.WantAssign ∷ sym.Right ∷ sym.LevelEnd ∷ ss))
    → Made (sym.Statement ∷ ss) (tok.Name at name
    ∷ of_things (sym.IndexTail ∷ sym.WantAssign ∷ sym.Right ∷ sym.LevelEnd ∷ ss) x)
assigned at name ss (i, (set_at, (shown e, (plain, rest)))) = (((g.assign (g.spot at name i) set_at e, tt), rest), refl)
assigned at name ss (i, (set_at, (called name_at callee start first more close, (plain, rest)))) =
    (((g.assign_call (g.spot at name i) set_at name_at callee start first more close, tt), rest), refl)

pub sound-statement : (k : Token) (ss : Stack) → Steps sym.Statement k ss (statement_step k)
sound-statement (tok.Begin at) ss = (tt, λ x. (((g.block at x.0.0 x.1.0.0 x.1.1.0, (x.0.1, x.1.0.1)), x.1.1.1.1), refl))
sound-statement (tok.If at) ss = (
  tt,
  λ x.
      let a = attached at (g.expr (g.both x.0 x.1.0) x.1.1.0) x.1.1.1.0 x.1.1.1.1.0 x.1.1.1.1.1.0 in
      ((a.0, x.1.1.1.1.1.1.1), a.1 (of_things ss x.1.1.1.1.1.1.1)),
)
sound-statement (tok.While at) ss = (
  tt,
  λ x. (
    ((g.while_do at (g.expr (g.both x.0 x.1.0) x.1.1.0) x.1.1.1.0 x.1.1.1.1.0.0, x.1.1.1.1.0.1), x.1.1.1.1.1.1),
    refl,
  ),
)
sound-statement (tok.For at) ss = (
  tt,
  λ x. (
    (
      (
        g.for_do at x.0.0 x.0.1 x.1.0 (g.expr (g.both x.1.1.0 x.1.1.1.0) x.1.1.1.1.0) x.1.1.1.1.1.0
            (g.expr (g.both x.1.1.1.1.1.1.0 x.1.1.1.1.1.1.1.0) x.1.1.1.1.1.1.1.1.0) x.1.1.1.1.1.1.1.1.1.0
            x.1.1.1.1.1.1.1.1.1.1.0 x.1.1.1.1.1.1.1.1.1.1.1.0.0,
        x.1.1.1.1.1.1.1.1.1.1.1.0.1,
      ),
      x.1.1.1.1.1.1.1.1.1.1.1.1.1,
    ),
    refl,
  ),
)
sound-statement (tok.Do at) ss = (
  tt,
  λ x. (
    ((g.do_until at x.0.0 x.1.0 (g.expr (g.both x.1.1.0 x.1.1.1.0) x.1.1.1.1.0), x.0.1), x.1.1.1.1.1.1),
    refl,
  ),
)
sound-statement (tok.Call at) ss = (tt, λ x. (((g.call at x.0.0 x.0.1 x.1.0, tt), x.1.1.1), refl))
sound-statement (tok.Return at) ss = (tt, λ x. (((g.return at x.0, tt), x.1.1), refl))
sound-statement (tok.Name at name) ss = (tt, assigned at name ss)
sound-statement _ ss = tt

pub sound-direction : (k : Token) (ss : Stack) → Steps sym.Direction k ss (direction_step k)
sound-direction (tok.To at) ss = (tt, λ x. ((g.up at, x), refl))
sound-direction (tok.DownTo at) ss = (tt, λ x. ((g.down at, x), refl))
sound-direction _ ss = tt

pub sound-step-tail : (k : Token) (ss : Stack) → Steps sym.StepTail k ss (step_step k)
sound-step-tail (tok.By at) ss = (tt, λ x. ((g.step_by at x.0, x.1), refl))
sound-step-tail _ ss = tt

pub sound-else : (k : Token) (ss : Stack) → Steps sym.ElseTail k ss (else_step k)
sound-else (tok.Else at) ss = (tt, λ x. (((g.otherwise at x.0.0, x.0.1), x.1), refl))
sound-else _ ss = tt

pub sound-row : (k : Token) (ss : Stack) → Steps sym.RowTail k ss (row_step k)
sound-row (tok.Semicolon at) ss = (tt, λ x. (((g.more_row at x.0.0 x.1.0.0, (x.0.1, x.1.0.1)), x.1.1), refl))
sound-row _ ss = tt

-- Each row of the table of expressions makes what its symbol stands for.
use Rattle.std.proofs.Common.{List, ◌∷◌, refl}
use Rattle.tal_tokens.specs.declared.token.Token.{Token}
use Rattle.tal_tokens.specs.declared.token.Token.TheVariants as tok
use Rattle.tal_syntax.specs.Grammar as g
use Rattle.tal_recogniser.specs.declared.symbol.Symbol.TheVariants as sym
use Rattle.tal_recogniser.specs.ExpressionTable.{Stack, factor_step, index_step, times_step, term_step, rel_step}
use Rattle.tal_recogniser.specs.ExpressionTable.{neg_step, and_step, or_step}
use Rattle.tal_recogniser.proofs.Things.{Made, Steps}

pub sound-factor : (k : Token) (ss : Stack) → Steps sym.Factor k ss (factor_step k)
sound-factor (tok.Minus at) ss = (tt, λ x. ((g.minus at x.0, x.1.1), refl))
sound-factor (tok.Number at n) ss = (tt, λ x. ((g.number at n, x), refl))
sound-factor (tok.Name at name) ss = (tt, λ x. ((g.read (g.spot at name x.0), x.1), refl))
sound-factor (tok.Open at) ss =
    (tt, λ x. ((g.parens at (g.expr (g.both x.0 x.1.0) x.1.1.0) x.1.1.1.0, x.1.1.1.1.1), refl))
sound-factor _ ss = tt

pub sound-index : (k : Token) (ss : Stack) → Steps sym.IndexTail k ss (index_step k)
sound-index (tok.OpenIndex at) ss =
    (tt, λ x. ((g.index at (g.expr (g.both x.0 x.1.0) x.1.1.0) x.1.1.1.0, x.1.1.1.1.1), refl))
sound-index _ ss = tt

pub sound-times : (k : Token) (ss : Stack) → Steps sym.TimesTail k ss (times_step k)
sound-times (tok.Star at) ss = (tt, λ x. ((g.more_factors (g.times at) x.0 x.1.0, x.1.1), refl))
sound-times (tok.Slash at) ss = (tt, λ x. ((g.more_factors (g.over at) x.0 x.1.0, x.1.1), refl))
sound-times _ ss = tt

pub sound-term : (k : Token) (ss : Stack) → Steps sym.TermTail k ss (term_step k)
sound-term (tok.Plus at) ss = (tt, λ x. ((g.more_terms (g.plus at) (g.product x.0 x.1.0) x.1.1.0, x.1.1.1), refl))
sound-term (tok.Minus at) ss = (tt, λ x. ((g.more_terms (g.dash at) (g.product x.0 x.1.0) x.1.1.0, x.1.1.1), refl))
sound-term _ ss = tt

pub sound-rel : (k : Token) (ss : Stack) → Steps sym.RelTail k ss (rel_step k)
sound-rel (tok.Equal at) ss =
    (tt, λ x. ((g.compared (g.equal at) (g.sum (g.product x.0 x.1.0) x.1.1.0), x.1.1.1), refl))
sound-rel (tok.Differs at) ss =
    (tt, λ x. ((g.compared (g.differs at) (g.sum (g.product x.0 x.1.0) x.1.1.0), x.1.1.1), refl))
sound-rel (tok.Less at) ss = (tt, λ x. ((g.compared (g.less at) (g.sum (g.product x.0 x.1.0) x.1.1.0), x.1.1.1), refl))
sound-rel (tok.AtMost at) ss =
    (tt, λ x. ((g.compared (g.at_most at) (g.sum (g.product x.0 x.1.0) x.1.1.0), x.1.1.1), refl))
sound-rel (tok.Greater at) ss =
    (tt, λ x. ((g.compared (g.greater at) (g.sum (g.product x.0 x.1.0) x.1.1.0), x.1.1.1), refl))
sound-rel (tok.AtLeast at) ss =
    (tt, λ x. ((g.compared (g.at_least at) (g.sum (g.product x.0 x.1.0) x.1.1.0), x.1.1.1), refl))
sound-rel _ ss = tt

-- a relation is its first factor with what goes on behind it
as_neg : (ss : Stack) (ks : List Token) → Made (sym.Factor ∷ sym.TimesTail ∷ sym.TermTail ∷ sym.RelTail ∷ ss) ks
    → Made (sym.Neg ∷ ss) ks
as_neg ss ks m = ((g.relation (g.sum (g.product m.0.0 m.0.1.0) m.0.1.1.0) m.0.1.1.1.0, m.0.1.1.1.1), m.1)

abbrev sum_on : Stack → Stack
sum_on ss = sym.TimesTail ∷ sym.TermTail ∷ sym.RelTail ∷ ss

pub sound-neg : (k : Token) (ss : Stack) → Steps sym.Neg k ss (neg_step k)
sound-neg (tok.Not at) ss = (tt, λ x. ((g.negated at x.0, x.1.1), refl))
sound-neg (tok.Minus at) ss = (tt, λ x. as_neg ss _ ((sound-factor (tok.Minus at) (sum_on ss)).1 x))
sound-neg (tok.Number at n) ss = (tt, λ x. as_neg ss _ ((sound-factor (tok.Number at n) (sum_on ss)).1 x))
sound-neg (tok.Name at name) ss = (tt, λ x. as_neg ss _ ((sound-factor (tok.Name at name) (sum_on ss)).1 x))
sound-neg (tok.Open at) ss = (tt, λ x. as_neg ss _ ((sound-factor (tok.Open at) (sum_on ss)).1 x))
sound-neg _ ss = tt

pub sound-and : (k : Token) (ss : Stack) → Steps sym.AndTail k ss (and_step k)
sound-and (tok.And at) ss = (tt, λ x. ((g.more_ands at x.0 x.1.0, x.1.1), refl))
sound-and _ ss = tt

pub sound-or : (k : Token) (ss : Stack) → Steps sym.OrTail k ss (or_step k)
sound-or (tok.Or at) ss = (tt, λ x. ((g.more_ors at (g.both x.0 x.1.0) x.1.1.0, x.1.1.1), refl))
sound-or _ ss = tt

-- What the built expressions stand for in the grammar.
use Rattle.std.specs.Prelude.{pos, zero, List}
use Rattle.tal_syntax.specs.Grammar as g
use Rattle.tal_syntax.specs.Seen.Chained.{chained}
use Rattle.tal_syntax.specs.declared.expression.Rel.{Rel}
use Rattle.tal_syntax.specs.declared.expression.Rel.TheVariants as rel
use Rattle.tal_syntax.specs.declared.expression.Sign.{Sign}
use Rattle.tal_syntax.specs.declared.expression.Sign.TheVariants as sign
use Rattle.tal_syntax.specs.declared.expression.Scale.{Scale}
use Rattle.tal_syntax.specs.declared.expression.Scale.TheVariants as scale
use Rattle.tal_syntax.specs.declared.expression.Expr.{Expr, Expr', Row_of-NextBoth, end_of-NextBoth, more_of-NextBoth}
use Rattle.tal_syntax.specs.declared.expression.NextBoth.{NextBoth, NextBoth', out-NextBoth}
use Rattle.tal_syntax.specs.declared.expression.Both.{Both, Both', Row_of-NextNeg, end_of-NextNeg, more_of-NextNeg}
use Rattle.tal_syntax.specs.declared.expression.NextNeg.{NextNeg}
use Rattle.tal_syntax.specs.declared.expression.Neg.{Neg, Row_of-Neg, end_of-Neg, more_of-Neg}
use Rattle.tal_syntax.specs.declared.expression.Neg.TheVariants as neg
use Rattle.tal_syntax.specs.declared.expression.Compared.{Compared}
use Rattle.tal_syntax.specs.declared.expression.Compared.TheVariants as compared
use Rattle.tal_syntax.specs.declared.expression.Sum.{Sum, Sum', Row_of-Term, end_of-Term, more_of-Term}
use Rattle.tal_syntax.specs.declared.expression.Term.{Term, Term', out-Term}
use Rattle.tal_syntax.specs.declared.expression.Product.{Product, Product', Row_of-NextFactor, end_of-NextFactor}
use Rattle.tal_syntax.specs.declared.expression.Product.{more_of-NextFactor}
use Rattle.tal_syntax.specs.declared.expression.NextFactor.{NextFactor}
use Rattle.tal_syntax.specs.declared.expression.Factor.{Factor, Row_of-Factor, end_of-Factor, more_of-Factor}
use Rattle.tal_syntax.specs.declared.expression.Factor.{Row_of-Expr, end_of-Expr, more_of-Expr}
use Rattle.tal_syntax.specs.declared.expression.Factor.TheVariants as factor
use Rattle.tal_syntax.specs.declared.expression.Spot.{Spot}
use Rattle.tal_syntax.specs.declared.expression.Index.{Index}
use Rattle.tal_syntax.specs.declared.expression.Index.TheVariants as index

abbrev pub seen_rel : Rel → g.Rel
seen_rel (rel.Equal at) = g.equal at
seen_rel (rel.Differs at) = g.differs at
seen_rel (rel.Less at) = g.less at
seen_rel (rel.AtMost at) = g.at_most at
seen_rel (rel.Greater at) = g.greater at
seen_rel (rel.AtLeast at) = g.at_least at

abbrev pub seen_sign : Sign → g.Sign
seen_sign (sign.Plus at) = g.plus at
seen_sign (sign.Minus at) = g.dash at

abbrev pub seen_scale : Scale → g.Scale
seen_scale (scale.Times at) = g.times at
seen_scale (scale.Over at) = g.over at

-- what an empty box would hold; there is none
abbrev pub no_factor : g.Factor
no_factor = g.number (record { place = record { line = 0; column = 0 }; start = 0; end = 0 }) (pos zero)

abbrev pub no_neg : g.Neg
no_neg = g.relation (g.sum (g.product no_factor g.no_factors) g.no_terms) g.alone

abbrev pub no_expr : g.Expr
no_expr = g.expr (g.both no_neg g.no_ands) g.no_ors

abbrev mutual
  pub seen_expr : Expr → g.Expr
  seen_expr (Expr' first s more) = g.expr (seen_both first) (seen_next_boths more)

  pub seen_next_boths : {n : _} → Row_of-NextBoth n → g.Ors
  seen_next_boths end_of-NextBoth = g.no_ors
  seen_next_boths (more_of-NextBoth (NextBoth' at b) rest) = g.more_ors at (seen_both b) (seen_next_boths rest)

  pub seen_both : Both → g.Both
  seen_both (Both' first s more) = g.both (seen_neg first) (seen_next_negs more)

  pub seen_next_negs : {n : _} → Row_of-NextNeg n → g.Ands
  seen_next_negs end_of-NextNeg = g.no_ands
  seen_next_negs (more_of-NextNeg at n rest) = g.more_ands at (seen_neg n) (seen_next_negs rest)

  pub seen_neg : Neg → g.Neg
  seen_neg (neg.Not' at s n) = g.negated at (seen_boxed_neg n)
  seen_neg (neg.Relation s c) = g.relation (seen_sum s) (seen_compared c)

  pub seen_boxed_neg : {n : _} → Row_of-Neg n → g.Neg
  seen_boxed_neg end_of-Neg = no_neg
  seen_boxed_neg (more_of-Neg n rest) = seen_neg n

  pub seen_compared : Compared → g.Compared
  seen_compared compared.Alone = g.alone
  seen_compared (compared.With r s) = g.compared (seen_rel r) (seen_sum s)

  pub seen_sum : Sum → g.Sum
  seen_sum (Sum' first s more) = g.sum (seen_product first) (seen_next_terms more)

  pub seen_next_terms : {n : _} → Row_of-Term n → g.Terms
  seen_next_terms end_of-Term = g.no_terms
  seen_next_terms (more_of-Term (Term' sign p) rest) =
      g.more_terms (seen_sign sign) (seen_product p) (seen_next_terms rest)

  pub seen_product : Product → g.Product
  seen_product (Product' first s more) = g.product (seen_factor first) (seen_next_factors more)

  pub seen_next_factors : {n : _} → Row_of-NextFactor n → g.Factors
  seen_next_factors end_of-NextFactor = g.no_factors
  seen_next_factors (more_of-NextFactor scale f rest) =
      g.more_factors (seen_scale scale) (seen_factor f) (seen_next_factors rest)

  pub seen_factor : Factor → g.Factor
  seen_factor (factor.Minus' at s f) = g.minus at (seen_boxed_factor f)
  seen_factor (factor.Number at value) = g.number at value
  seen_factor (factor.Spot' at name i) = g.read (g.spot at name (seen_index i))
  seen_factor (factor.Parens' start s e close) = g.parens start (seen_boxed_expr e) close

  pub seen_boxed_factor : {n : _} → Row_of-Factor n → g.Factor
  seen_boxed_factor end_of-Factor = no_factor
  seen_boxed_factor (more_of-Factor f rest) = seen_factor f

  pub seen_index : Index → g.Index
  seen_index index.Simple = g.no_index
  seen_index (index.Element' start s e close) = g.index start (seen_boxed_expr e) close

  pub seen_boxed_expr : {n : _} → Row_of-Expr n → g.Expr
  seen_boxed_expr end_of-Expr = no_expr
  seen_boxed_expr (more_of-Expr e rest) = seen_expr e

abbrev pub seen_spot : Spot → g.Spot
seen_spot s = g.spot s.at s.name (seen_index s.index)

abbrev pub link_ors : NextBoth → g.Ors → g.Ors
link_ors n rest = g.more_ors (out-NextBoth n).or (seen_both (out-NextBoth n).both) rest

abbrev pub seen_ors : List NextBoth → g.Ors
seen_ors ns = chained link_ors ns g.no_ors

abbrev pub link_ands : NextNeg → g.Ands → g.Ands
link_ands n rest = g.more_ands n.and (seen_neg n.neg) rest

abbrev pub seen_ands : List NextNeg → g.Ands
seen_ands ns = chained link_ands ns g.no_ands

abbrev pub link_terms : Term → g.Terms → g.Terms
link_terms n rest = g.more_terms (seen_sign (out-Term n).sign) (seen_product (out-Term n).product) rest

abbrev pub seen_terms : List Term → g.Terms
seen_terms ns = chained link_terms ns g.no_terms

abbrev pub link_factors : NextFactor → g.Factors → g.Factors
link_factors n rest = g.more_factors (seen_scale n.scale) (seen_factor n.factor) rest

abbrev pub seen_factors : List NextFactor → g.Factors
seen_factors ns = chained link_factors ns g.no_factors

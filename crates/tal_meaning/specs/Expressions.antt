-- The values, conditions and targets that the expressions of a text without faults stand for. Where an expression has a
-- fault, what is said here plays no part.
use Rattle.std.specs.Prelude.{pos, zero, Option, Some, None}
use Rattle.tal_syntax.specs.Grammar as g
use Rattle.tal_tree.specs.declared.expression.Cond.{Cond}
use Rattle.tal_tree.specs.declared.expression.Cond.TheVariants as cond
use Rattle.tal_tree.specs.declared.expression.Expr.{Expr}
use Rattle.tal_tree.specs.declared.expression.Expr.TheVariants as expr
use Rattle.tal_tree.specs.declared.expression.Op.{Op}
use Rattle.tal_tree.specs.declared.expression.Op.TheVariants as op
use Rattle.tal_tree.specs.declared.expression.Rel.{Rel}
use Rattle.tal_tree.specs.declared.expression.Rel.TheVariants as rel
use Rattle.tal_tree.specs.declared.expression.Spot.{Spot}
use Rattle.tal_tree.specs.declared.expression.Spot.TheVariants as spot
use Rattle.tal_names.specs.declared.meaning.Meaning.{Meaning}
use Rattle.tal_names.specs.declared.meaning.Meaning.TheVariants as m
use Rattle.tal_names.specs.declared.scope.Scope.{Scope}
use Rattle.tal_names.specs.Scopes.{meaning_of}

abbrev pub op_of_sign : g.Sign → Op
op_of_sign (g.plus at) = op.Add
op_of_sign (g.dash at) = op.Sub

abbrev pub op_of_scale : g.Scale → Op
op_of_scale (g.times at) = op.Mul
op_of_scale (g.over at) = op.Div

abbrev pub rel_of : g.Rel → Rel
rel_of (g.equal at) = rel.Equal
rel_of (g.differs at) = rel.Differs
rel_of (g.less at) = rel.Less
rel_of (g.at_most at) = rel.AtMost
rel_of (g.greater at) = rel.Greater
rel_of (g.at_least at) = rel.AtLeast

-- what a name reads with the value of its index, if it has one; a LITERAL is its number
abbrev pub read_by : Option Meaning → Option Expr → Expr
read_by (Some (m.Local number)) index = expr.Read (spot.Local number)
read_by (Some (m.Simple item)) index = expr.Read (spot.Simple item)
read_by (Some (m.Literal value)) index = expr.Number value
read_by (Some (m.Array item)) (Some index) = expr.Read (spot.Element item index)
read_by _ _ = expr.Number (pos zero)

-- what an assignment to a name sets
abbrev pub target_by : Option Meaning → Option Expr → Spot
target_by (Some (m.Local number)) index = spot.Local number
target_by (Some (m.Simple item)) index = spot.Simple item
target_by (Some (m.Array item)) (Some index) = spot.Element item index
target_by _ _ = spot.Simple 0

module _ (s : Scope) where
  -- values; a chain leans to the left
  abbrev mutual
    pub value_of_expr : g.Expr → Expr
    value_of_expr (g.expr b os) = value_of_both b

    pub value_of_both : g.Both → Expr
    value_of_both (g.both n ns) = value_of_neg n

    pub value_of_neg : g.Neg → Expr
    value_of_neg (g.negated at n) = expr.Number (pos zero)
    value_of_neg (g.relation a c) = value_of_sum a

    pub value_of_sum : g.Sum → Expr
    value_of_sum (g.sum p ts) = value_of_terms (value_of_product p) ts

    pub value_of_terms : Expr → g.Terms → Expr
    value_of_terms left g.no_terms = left
    value_of_terms left (g.more_terms sign p ts) =
        value_of_terms (expr.Two (op_of_sign sign) left (value_of_product p)) ts

    pub value_of_product : g.Product → Expr
    value_of_product (g.product f fs) = value_of_factors (value_of_factor f) fs

    pub value_of_factors : Expr → g.Factors → Expr
    value_of_factors left g.no_factors = left
    value_of_factors left (g.more_factors scale f fs) =
        value_of_factors (expr.Two (op_of_scale scale) left (value_of_factor f)) fs

    pub value_of_factor : g.Factor → Expr
    value_of_factor (g.minus at f) = expr.Minus (value_of_factor f)
    value_of_factor (g.number at n) = expr.Number n
    value_of_factor (g.read x) = value_of_spot x
    value_of_factor (g.parens start e close) = value_of_expr e

    pub value_of_spot : g.Spot → Expr
    value_of_spot (g.spot at name i) = read_by (meaning_of s name) (value_of_index i)

    pub value_of_index : g.Index → Option Expr
    value_of_index g.no_index = None
    value_of_index (g.index start e close) = Some (value_of_expr e)

  -- what an assignment sets
  abbrev pub target_of_spot : g.Spot → Spot
  target_of_spot (g.spot at name i) = target_by (meaning_of s name) (value_of_index i)

  -- conditions; what stands without an operator in the place of a condition is a value, but for a condition in
  -- parentheses
  abbrev mutual
    pub cond_of_expr : g.Expr → Cond
    cond_of_expr (g.expr b os) = cond_of_ors (cond_of_both b) os

    pub cond_of_ors : Cond → g.Ors → Cond
    cond_of_ors left g.no_ors = left
    cond_of_ors left (g.more_ors at b os) = cond_of_ors (cond.Or left (cond_of_both b)) os

    pub cond_of_both : g.Both → Cond
    cond_of_both (g.both n ns) = cond_of_ands (cond_of_neg n) ns

    pub cond_of_ands : Cond → g.Ands → Cond
    cond_of_ands left g.no_ands = left
    cond_of_ands left (g.more_ands at n ns) = cond_of_ands (cond.And left (cond_of_neg n)) ns

    pub cond_of_neg : g.Neg → Cond
    cond_of_neg (g.negated at n) = cond.Not (cond_of_neg n)
    cond_of_neg (g.relation a g.alone) = cond_of_sum a
    cond_of_neg (g.relation a (g.compared r b)) = cond.Compare (rel_of r) (value_of_sum a) (value_of_sum b)

    pub cond_of_sum : g.Sum → Cond
    cond_of_sum (g.sum p g.no_terms) = cond_of_product p
    cond_of_sum (g.sum p (g.more_terms sign q ts)) =
        cond.Truth (value_of_terms (value_of_product p) (g.more_terms sign q ts))

    pub cond_of_product : g.Product → Cond
    cond_of_product (g.product f g.no_factors) = cond_of_factor f
    cond_of_product (g.product f (g.more_factors scale x fs)) =
        cond.Truth (value_of_factors (value_of_factor f) (g.more_factors scale x fs))

    pub cond_of_factor : g.Factor → Cond
    cond_of_factor (g.minus at f) = cond.Truth (expr.Minus (value_of_factor f))
    cond_of_factor (g.number at n) = cond.Truth (expr.Number n)
    cond_of_factor (g.read x) = cond.Truth (value_of_spot x)
    cond_of_factor (g.parens start e close) = cond_of_expr e

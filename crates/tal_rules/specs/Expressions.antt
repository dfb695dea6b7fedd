-- The faults of expressions. What stands in a place is a condition or a value; parentheses hand their place on.
use Rattle.std.specs.Prelude.{List, [], ◌++◌}
use Rattle.tal_syntax.specs.tal_tokens.specs.declared.token.At.{At}
use Rattle.tal_syntax.specs.Grammar as g
use Rattle.tal_names.specs.declared.fault.Rule.TheVariants.{WrongKind}
use Rattle.tal_names.specs.declared.fault.RuleFault.{RuleFault}
use Rattle.tal_names.specs.declared.meaning.Need.{Need}
use Rattle.tal_names.specs.declared.meaning.Need.TheVariants as need
use Rattle.tal_names.specs.declared.meaning.Wanted.{Wanted}
use Rattle.tal_names.specs.declared.meaning.Wanted.TheVariants.{Condition, Value}
use Rattle.tal_names.specs.declared.scope.Scope.{Scope}
use Rattle.tal_names.specs.Faults.{fault_at}
use Rattle.tal_names.specs.Places.{first_of_factor, first_of_product, first_of_sum, first_of_expr}
use Rattle.tal_names.specs.Scopes.{name_faults}

-- a condition in the place of a value is WrongKind where what stands in that place begins
abbrev pub misplaced : Wanted → List RuleFault
misplaced Condition = []
misplaced (Value at) = fault_at at WrongKind

-- a chain of OR or AND and a relation are conditions, and their operands are a condition's and a value's places; what
-- stands without an operator hands its place on
abbrev pub ors_misplaced : Wanted → g.Ors → List RuleFault
ors_misplaced w g.no_ors = []
ors_misplaced w (g.more_ors at b os) = misplaced w

abbrev pub wanted_by_ors : Wanted → g.Ors → Wanted
wanted_by_ors w g.no_ors = w
wanted_by_ors w (g.more_ors at b os) = Condition

abbrev pub ands_misplaced : Wanted → g.Ands → List RuleFault
ands_misplaced w g.no_ands = []
ands_misplaced w (g.more_ands at n ns) = misplaced w

abbrev pub wanted_by_ands : Wanted → g.Ands → Wanted
wanted_by_ands w g.no_ands = w
wanted_by_ands w (g.more_ands at n ns) = Condition

abbrev pub relation_misplaced : Wanted → g.Compared → List RuleFault
relation_misplaced w g.alone = []
relation_misplaced w (g.compared r s) = misplaced w

abbrev pub wanted_by_relation : Wanted → At → g.Compared → Wanted
wanted_by_relation w at g.alone = w
wanted_by_relation w at (g.compared r s) = Value at

abbrev pub wanted_by_terms : Wanted → At → g.Terms → Wanted
wanted_by_terms w at g.no_terms = w
wanted_by_terms w at (g.more_terms sign p ts) = Value at

abbrev pub wanted_by_factors : Wanted → At → g.Factors → Wanted
wanted_by_factors w at g.no_factors = w
wanted_by_factors w at (g.more_factors sign f fs) = Value at

-- with an index a name has to be an array's
abbrev pub need_by_index : Need → g.Index → Need
need_by_index n g.no_index = n
need_by_index n (g.index start e close) = need.Array

module _ (s : Scope) where
  abbrev mutual
    pub expr_faults : Wanted → g.Expr → List RuleFault
    expr_faults w (g.expr b os) = ors_misplaced w os ++ both_faults (wanted_by_ors w os) b ++ ors_faults os

    pub ors_faults : g.Ors → List RuleFault
    ors_faults g.no_ors = []
    ors_faults (g.more_ors at b os) = both_faults Condition b ++ ors_faults os

    pub both_faults : Wanted → g.Both → List RuleFault
    both_faults w (g.both n ns) = ands_misplaced w ns ++ neg_faults (wanted_by_ands w ns) n ++ ands_faults ns

    pub ands_faults : g.Ands → List RuleFault
    ands_faults g.no_ands = []
    ands_faults (g.more_ands at n ns) = neg_faults Condition n ++ ands_faults ns

    pub neg_faults : Wanted → g.Neg → List RuleFault
    neg_faults w (g.negated at n) = misplaced w ++ neg_faults Condition n
    neg_faults w (g.relation a c) =
        relation_misplaced w c ++ sum_faults (wanted_by_relation w (first_of_sum a) c) a ++ compared_faults c

    pub compared_faults : g.Compared → List RuleFault
    compared_faults g.alone = []
    compared_faults (g.compared r a) = sum_faults (Value (first_of_sum a)) a

    pub sum_faults : Wanted → g.Sum → List RuleFault
    sum_faults w (g.sum p ts) = product_faults (wanted_by_terms w (first_of_product p) ts) p ++ terms_faults ts

    pub terms_faults : g.Terms → List RuleFault
    terms_faults g.no_terms = []
    terms_faults (g.more_terms sign p ts) = product_faults (Value (first_of_product p)) p ++ terms_faults ts

    pub product_faults : Wanted → g.Product → List RuleFault
    product_faults w (g.product f fs) =
        factor_faults (wanted_by_factors w (first_of_factor f) fs) f ++ factors_faults fs

    pub factors_faults : g.Factors → List RuleFault
    factors_faults g.no_factors = []
    factors_faults (g.more_factors sign f fs) = factor_faults (Value (first_of_factor f)) f ++ factors_faults fs

    pub factor_faults : Wanted → g.Factor → List RuleFault
    factor_faults w (g.minus at f) = factor_faults (Value (first_of_factor f)) f
    factor_faults w (g.number at n) = []
    factor_faults w (g.read x) = spot_faults need.Readable x
    factor_faults w (g.parens start e close) = expr_faults w e

    -- a name, which without an index has to be what is needed, and its index
    pub spot_faults : Need → g.Spot → List RuleFault
    spot_faults n (g.spot at name i) = name_faults s (need_by_index n i) at name ++ index_faults i

    pub index_faults : g.Index → List RuleFault
    index_faults g.no_index = []
    index_faults (g.index start e close) = expr_faults (Value (first_of_expr e)) e

  -- the faults of an expression in the place of a value
  abbrev pub value_faults : g.Expr → List RuleFault
  value_faults e = expr_faults (Value (first_of_expr e)) e

-- Expressions with which tokens begin. `x_by` finds an x by what finds its parts.
use Rattle.std.specs.Prelude.{ℕ, zero, suc, List, ◌∷◌, length, Some, None, option_map}
use Rattle.std.specs.Option.{option_and_then}
use Rattle.tal_tokens.specs.declared.token.At.{At}
use Rattle.tal_tokens.specs.declared.token.Token.{Token}
use Rattle.tal_tokens.specs.declared.token.Token.TheVariants as tok
use Rattle.tal_syntax.specs.Grammar as g
use Rattle.tal_builder.specs.declared.plain_token.PlainToken.TheVariants as plain
use Rattle.tal_builder.specs.First.{name_of, rel_of, sign_of, scale_of}
use Rattle.tal_builder.specs.PlainTokens.{plain_of}
use Rattle.tal_builder.specs.Parse.Chains.{Found, rest_by}

abbrev pub ors_by : (List Token → Found g.Both) → List Token → Found g.Ors
ors_by both ks = rest_by g.no_ors g.more_ors (plain_of plain.Or) both (length ks) ks

abbrev pub expr_by : (List Token → Found g.Both) → List Token → Found g.Expr
expr_by both ks = option_and_then (λ f. option_map (λ r. (g.expr f.0 r.0, r.1)) (ors_by both f.1)) (both ks)

abbrev pub ands_by : (List Token → Found g.Neg) → List Token → Found g.Ands
ands_by neg ks = rest_by g.no_ands g.more_ands (plain_of plain.And) neg (length ks) ks

abbrev pub both_by : (List Token → Found g.Neg) → List Token → Found g.Both
both_by neg ks = option_and_then (λ f. option_map (λ r. (g.both f.0 r.0, r.1)) (ands_by neg f.1)) (neg ks)

abbrev pub compared_after : (List Token → Found g.Sum) → List Token → Found g.Rel → Found g.Compared
compared_after sum ks None = Some (g.alone, ks)
compared_after sum ks (Some (r, us)) = option_map (λ s. (g.compared r s.0, s.1)) (sum us)

abbrev pub compared_by : (List Token → Found g.Sum) → List Token → Found g.Compared
compared_by sum ks = compared_after sum ks (rel_of ks)

-- a relation, after its left sum
abbrev pub compared_to : (List Token → Found g.Sum) → g.Sum → List Token → Found g.Neg
compared_to sum left ks = option_map (λ c. (g.relation left c.0, c.1)) (compared_by sum ks)

abbrev pub relation_by : (List Token → Found g.Sum) → List Token → Found g.Neg
relation_by sum ks = option_and_then (λ s. compared_to sum s.0 s.1) (sum ks)

-- neg, after NOT
abbrev pub negated_by : (List Token → Found g.Neg) → At → List Token → Found g.Neg
negated_by inner at ks = option_map (λ n. (g.negated at n.0, n.1)) (inner ks)

-- NOT neg, where `inner` finds the neg, or a relation
abbrev pub neg_by : (List Token → Found g.Neg) → (List Token → Found g.Sum) → List Token → Found g.Neg
neg_by inner sum (tok.Not at ∷ ks) = negated_by inner at ks
neg_by inner sum ks = relation_by sum ks

abbrev pub terms_by : (List Token → Found g.Product) → List Token → Found g.Terms
terms_by product ks = rest_by g.no_terms g.more_terms sign_of product (length ks) ks

abbrev pub sum_by : (List Token → Found g.Product) → List Token → Found g.Sum
sum_by product ks = option_and_then (λ f. option_map (λ r. (g.sum f.0 r.0, r.1)) (terms_by product f.1)) (product ks)

abbrev pub factors_by : (List Token → Found g.Factor) → List Token → Found g.Factors
factors_by factor ks = rest_by g.no_factors g.more_factors scale_of factor (length ks) ks

abbrev pub product_by : (List Token → Found g.Factor) → List Token → Found g.Product
product_by factor ks =
    option_and_then (λ f. option_map (λ r. (g.product f.0 r.0, r.1)) (factors_by factor f.1)) (factor ks)

abbrev pub index_after : (List Token → Found g.Expr) → List Token → Found At → Found g.Index
index_after expr ks None = Some (g.no_index, ks)
index_after expr ks (Some (start, us)) =
    option_and_then (λ e. option_map (λ c. (g.index start e.0 c.0, c.1)) (plain_of plain.CloseIndex e.1)) (expr us)

abbrev pub index_by : (List Token → Found g.Expr) → List Token → Found g.Index
index_by expr ks = index_after expr ks (plain_of plain.OpenIndex ks)

abbrev pub spot_by : (List Token → Found g.Expr) → List Token → Found g.Spot
spot_by expr ks =
    option_and_then (λ w. option_map (λ i. (g.spot w.0.0 w.0.1 i.0, i.1)) (index_by expr w.1)) (name_of ks)

-- factor, after "-"
abbrev pub minus_by : (List Token → Found g.Factor) → At → List Token → Found g.Factor
minus_by inner at ks = option_map (λ f. (g.minus at f.0, f.1)) (inner ks)

-- expr ")", after "("
abbrev pub parens_by : (List Token → Found g.Expr) → At → List Token → Found g.Factor
parens_by expr start ks =
    option_and_then (λ e. option_map (λ c. (g.parens start e.0 c.0, c.1)) (plain_of plain.Close e.1)) (expr ks)

-- a factor, where `inner` finds that of a minus and `expr` what stands in parentheses or as an index
abbrev pub factor_by : (List Token → Found g.Factor) → (List Token → Found g.Expr) → List Token → Found g.Factor
factor_by inner expr (tok.Minus at ∷ ks) = minus_by inner at ks
factor_by inner expr (tok.Number at n ∷ ks) = Some (g.number at n, ks)
factor_by inner expr (tok.Open start ∷ ks) = parens_by expr start ks
factor_by inner expr ks = option_map (λ s. (g.read s.0, s.1)) (spot_by expr ks)

-- `x_in n` finds an x that opens the first of n levels
abbrev mutual
  pub factor_in : ℕ → List Token → Found g.Factor
  factor_in zero ks = None
  factor_in (suc n) ks = factor_by (factor_in n) (expr_in n) ks

  pub neg_in : ℕ → List Token → Found g.Neg
  neg_in zero ks = None
  neg_in (suc n) ks = neg_by (neg_in n) (sum_by (product_by (factor_by (factor_in n) (expr_in n)))) ks

  pub expr_in : ℕ → List Token → Found g.Expr
  expr_in zero ks = None
  expr_in (suc n) ks =
      expr_by (both_by (neg_by (neg_in n) (sum_by (product_by (factor_by (factor_in n) (expr_in n)))))) ks

-- `x_at n` finds an x in which n levels may be opened
abbrev pub factor_at : ℕ → List Token → Found g.Factor
factor_at n ks = factor_by (factor_in n) (expr_in n) ks

abbrev pub product_at : ℕ → List Token → Found g.Product
product_at n ks = product_by (factor_at n) ks

abbrev pub sum_at : ℕ → List Token → Found g.Sum
sum_at n ks = sum_by (product_at n) ks

abbrev pub neg_at : ℕ → List Token → Found g.Neg
neg_at n ks = neg_by (neg_in n) (sum_at n) ks

abbrev pub both_at : ℕ → List Token → Found g.Both
both_at n ks = both_by (neg_at n) ks

abbrev pub expr_at : ℕ → List Token → Found g.Expr
expr_at n ks = expr_by (both_at n) ks

abbrev pub spot_at : ℕ → List Token → Found g.Spot
spot_at n ks = spot_by (expr_in n) ks

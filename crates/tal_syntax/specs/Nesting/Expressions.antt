-- How deep the tokens of expressions stand.
use Rattle.std.specs.Prelude.{ℕ, suc, List, ◌∷◌}
use Rattle.tal_syntax.specs.Grammar as g

abbrev mutual
  pub nest_expr : ℕ → g.Expr → List ℕ → List ℕ
  nest_expr n (g.expr b os) ls = nest_both n b (nest_ors n os ls)

  pub nest_ors : ℕ → g.Ors → List ℕ → List ℕ
  nest_ors n g.no_ors ls = ls
  nest_ors n (g.more_ors at b os) ls = n ∷ nest_both n b (nest_ors n os ls)

  pub nest_both : ℕ → g.Both → List ℕ → List ℕ
  nest_both n (g.both neg ns) ls = nest_neg n neg (nest_ands n ns ls)

  pub nest_ands : ℕ → g.Ands → List ℕ → List ℕ
  nest_ands n g.no_ands ls = ls
  nest_ands n (g.more_ands at neg ns) ls = n ∷ nest_neg n neg (nest_ands n ns ls)

  pub nest_neg : ℕ → g.Neg → List ℕ → List ℕ
  nest_neg n (g.negated at neg) ls = suc n ∷ nest_neg (suc n) neg ls
  nest_neg n (g.relation s c) ls = nest_sum n s (nest_compared n c ls)

  pub nest_compared : ℕ → g.Compared → List ℕ → List ℕ
  nest_compared n g.alone ls = ls
  nest_compared n (g.compared r s) ls = n ∷ nest_sum n s ls

  pub nest_sum : ℕ → g.Sum → List ℕ → List ℕ
  nest_sum n (g.sum p ts) ls = nest_product n p (nest_terms n ts ls)

  pub nest_terms : ℕ → g.Terms → List ℕ → List ℕ
  nest_terms n g.no_terms ls = ls
  nest_terms n (g.more_terms s p ts) ls = n ∷ nest_product n p (nest_terms n ts ls)

  pub nest_product : ℕ → g.Product → List ℕ → List ℕ
  nest_product n (g.product f fs) ls = nest_factor n f (nest_factors n fs ls)

  pub nest_factors : ℕ → g.Factors → List ℕ → List ℕ
  nest_factors n g.no_factors ls = ls
  nest_factors n (g.more_factors s f fs) ls = n ∷ nest_factor n f (nest_factors n fs ls)

  pub nest_factor : ℕ → g.Factor → List ℕ → List ℕ
  nest_factor n (g.minus at f) ls = suc n ∷ nest_factor (suc n) f ls
  nest_factor n (g.number at v) ls = n ∷ ls
  nest_factor n (g.read s) ls = nest_spot n s ls
  nest_factor n (g.parens start e close) ls = suc n ∷ nest_expr (suc n) e (suc n ∷ ls)

  pub nest_spot : ℕ → g.Spot → List ℕ → List ℕ
  nest_spot n (g.spot at name i) ls = n ∷ nest_index n i ls

  pub nest_index : ℕ → g.Index → List ℕ → List ℕ
  nest_index n g.no_index ls = ls
  nest_index n (g.index start e close) ls = suc n ∷ nest_expr (suc n) e (suc n ∷ ls)

-- One more operator after a chain of the grammar.
use Rattle.std.proofs.Common.{◌≡◌, ℕ, List, [], ◌∷◌, refl, ap}
use Rattle.tal_tree.specs.declared.expression.Cond.{Truth}
use Rattle.tal_tree.specs.declared.expression.Expr.{Expr}
use Rattle.tal_tree.specs.declared.expression.Expr.TheVariants as expr
use Rattle.tal_tokens.specs.declared.token.Token.{Token}
use Rattle.tal_syntax.specs.Grammar as g
use Rattle.tal_syntax.specs.Nesting.{nest_terms, nest_product, nest_factors, nest_factor}
use Rattle.tal_names.specs.declared.meaning.Wanted.TheVariants.{Value}
use Rattle.tal_names.specs.declared.scope.Scope.{Scope}
use Rattle.tal_rules.specs.Expressions.{product_faults, terms_faults, factor_faults, factors_faults}
use Rattle.tal_names.specs.Places.{first_of_product, first_of_factor}
use Rattle.tal_meaning.specs.Expressions.{op_of_sign, op_of_scale, value_of_terms, value_of_product, value_of_factors}
use Rattle.tal_meaning.specs.Expressions.{value_of_factor, cond_of_sum, cond_of_product}
use Rattle.tal_faultless.proofs.Common.Faultless.{nils, first_nil, second_nil}

abbrev pub one_term : g.Terms → g.Sign → g.Product → g.Terms
one_term g.no_terms sign p = g.more_terms sign p g.no_terms
one_term (g.more_terms s q ts) sign p = g.more_terms s q (one_term ts sign p)

pub of_one_term : (ts : g.Terms) (sign : g.Sign) (p : g.Product) (ks : List Token)
    → g.of_terms (one_term ts sign p) ks ≡ g.of_terms ts (g.of_sign sign ∷ g.of_product p ks)
of_one_term g.no_terms sign p ks = refl
of_one_term (g.more_terms s q ts) sign p ks = ap (λ rest. g.of_sign s ∷ g.of_product q rest) (of_one_term ts sign p ks)

pub nest_one_term : (ts : g.Terms) (sign : g.Sign) (p : g.Product) (n : ℕ) (ls : List ℕ)
    → nest_terms n (one_term ts sign p) ls ≡ nest_terms n ts (n ∷ nest_product n p ls)
nest_one_term g.no_terms sign p n ls = refl
nest_one_term (g.more_terms s q ts) sign p n ls = ap (λ rest. n ∷ nest_product n q rest) (nest_one_term ts sign p n ls)

abbrev pub one_factor : g.Factors → g.Scale → g.Factor → g.Factors
one_factor g.no_factors scale f = g.more_factors scale f g.no_factors
one_factor (g.more_factors s x fs) scale f = g.more_factors s x (one_factor fs scale f)

pub of_one_factor : (fs : g.Factors) (scale : g.Scale) (f : g.Factor) (ks : List Token)
    → g.of_factors (one_factor fs scale f) ks ≡ g.of_factors fs (g.of_scale scale ∷ g.of_factor f ks)
of_one_factor g.no_factors scale f ks = refl
of_one_factor (g.more_factors s x fs) scale f ks =
    ap (λ rest. g.of_scale s ∷ g.of_factor x rest) (of_one_factor fs scale f ks)

pub nest_one_factor : (fs : g.Factors) (scale : g.Scale) (f : g.Factor) (n : ℕ) (ls : List ℕ)
    → nest_factors n (one_factor fs scale f) ls ≡ nest_factors n fs (n ∷ nest_factor n f ls)
nest_one_factor g.no_factors scale f n ls = refl
nest_one_factor (g.more_factors s x fs) scale f n ls =
    ap (λ rest. n ∷ nest_factor n x rest) (nest_one_factor fs scale f n ls)

module _ (s : Scope) where
  pub value_one_term : (left : Expr) (ts : g.Terms) (sign : g.Sign) (p : g.Product)
      → value_of_terms s left (one_term ts sign p)
      ≡ expr.Two (op_of_sign sign) (value_of_terms s left ts) (value_of_product s p)
  value_one_term left g.no_terms sign p = refl
  value_one_term left (g.more_terms r q ts) sign p =
      value_one_term (expr.Two (op_of_sign r) left (value_of_product s q)) ts sign p

  pub faults_one_term : (ts : g.Terms) (sign : g.Sign) (p : g.Product) → terms_faults s ts ≡ []
      → product_faults s (Value (first_of_product p)) p ≡ []
      → terms_faults s (one_term ts sign p) ≡ []
  faults_one_term g.no_terms sign p more last = nils last refl
  faults_one_term (g.more_terms r q ts) sign p more last =
      nils (first_nil (product_faults s (Value (first_of_product q)) q) (terms_faults s ts) more)
      (faults_one_term ts sign p (second_nil (product_faults s (Value (first_of_product q)) q) (terms_faults s ts)
      more) last)

  -- a chain of operators in the place of a condition is a value
  pub truth_one_term : (p : g.Product) (ts : g.Terms) (sign : g.Sign) (q : g.Product)
      → cond_of_sum s (g.sum p (one_term ts sign q))
      ≡ Truth (value_of_terms s (value_of_product s p) (one_term ts sign q))
  truth_one_term p g.no_terms sign q = refl
  truth_one_term p (g.more_terms r x ts) sign q = refl

  pub truth_one_factor : (f : g.Factor) (fs : g.Factors) (scale : g.Scale) (x : g.Factor)
      → cond_of_product s (g.product f (one_factor fs scale x))
      ≡ Truth (value_of_factors s (value_of_factor s f) (one_factor fs scale x))
  truth_one_factor f g.no_factors scale x = refl
  truth_one_factor f (g.more_factors r y fs) scale x = refl

  pub value_one_factor : (left : Expr) (fs : g.Factors) (scale : g.Scale) (f : g.Factor)
      → value_of_factors s left (one_factor fs scale f)
      ≡ expr.Two (op_of_scale scale) (value_of_factors s left fs) (value_of_factor s f)
  value_one_factor left g.no_factors scale f = refl
  value_one_factor left (g.more_factors r x fs) scale f =
      value_one_factor (expr.Two (op_of_scale r) left (value_of_factor s x)) fs scale f

  pub faults_one_factor : (fs : g.Factors) (scale : g.Scale) (f : g.Factor) → factors_faults s fs ≡ []
      → factor_faults s (Value (first_of_factor f)) f ≡ []
      → factors_faults s (one_factor fs scale f) ≡ []
  faults_one_factor g.no_factors scale f more last = nils last refl
  faults_one_factor (g.more_factors r x fs) scale f more last =
      nils (first_nil (factor_faults s (Value (first_of_factor x)) x) (factors_faults s fs) more)
      (faults_one_factor fs scale f (second_nil (factor_faults s (Value (first_of_factor x)) x) (factors_faults s fs)
      more) last)

-- The rules of the grammar for expressions, a type for each level of operators.
use Rattle.std.specs.Prelude.{ℕ, ℤ, List, ◌∷◌}
use Rattle.tal_tokens.specs.declared.token.At.{At}
use Rattle.tal_tokens.specs.declared.token.Token.{Token}
use Rattle.tal_tokens.specs.declared.token.Token.TheVariants as tok

-- rel = "=" | "<>" | "<" | "<=" | ">" | ">="
pub data Rel : Type 0 where
  equal : At → Rel
  differs : At → Rel
  less : At → Rel
  at_most : At → Rel
  greater : At → Rel
  at_least : At → Rel

abbrev pub of_rel : Rel → Token
of_rel (equal at) = tok.Equal at
of_rel (differs at) = tok.Differs at
of_rel (less at) = tok.Less at
of_rel (at_most at) = tok.AtMost at
of_rel (greater at) = tok.Greater at
of_rel (at_least at) = tok.AtLeast at

-- sign = "+" | "-"
pub data Sign : Type 0 where
  plus : At → Sign
  dash : At → Sign

abbrev pub of_sign : Sign → Token
of_sign (plus at) = tok.Plus at
of_sign (dash at) = tok.Minus at

-- scale = "*" | "/"
pub data Scale : Type 0 where
  times : At → Scale
  over : At → Scale

abbrev pub of_scale : Scale → Token
of_scale (times at) = tok.Star at
of_scale (over at) = tok.Slash at

mutual
  -- expr = both ors
  pub data Expr : Type 0 where
    expr : Both → Ors → Expr

  -- ors = { OR both }
  pub data Ors : Type 0 where
    no_ors : Ors
    more_ors : At → Both → Ors → Ors

  -- both = neg ands
  pub data Both : Type 0 where
    both : Neg → Ands → Both

  -- ands = { AND neg }
  pub data Ands : Type 0 where
    no_ands : Ands
    more_ands : At → Neg → Ands → Ands

  -- neg = NOT neg | sum compared
  pub data Neg : Type 0 where
    negated : At → Neg → Neg
    relation : Sum → Compared → Neg

  -- compared = [ rel sum ]
  pub data Compared : Type 0 where
    alone : Compared
    compared : Rel → Sum → Compared

  -- sum = product terms
  pub data Sum : Type 0 where
    sum : Product → Terms → Sum

  -- terms = { sign product }
  pub data Terms : Type 0 where
    no_terms : Terms
    more_terms : Sign → Product → Terms → Terms

  -- product = factor factors
  pub data Product : Type 0 where
    product : Factor → Factors → Product

  -- factors = { scale factor }
  pub data Factors : Type 0 where
    no_factors : Factors
    more_factors : Scale → Factor → Factors → Factors

  -- factor = "-" factor | number | spot | "(" expr ")"
  pub data Factor : Type 0 where
    minus : At → Factor → Factor
    number : At → ℤ → Factor
    read : Spot → Factor
    parens : At → Expr → At → Factor

  -- spot = name index
  pub data Spot : Type 0 where
    spot : At → List ℕ → Index → Spot

  -- index = [ "[" expr "]" ]
  pub data Index : Type 0 where
    no_index : Index
    index : At → Expr → At → Index

abbrev mutual
  pub of_expr : Expr → List Token → List Token
  of_expr (expr b os) ks = of_both b (of_ors os ks)

  pub of_ors : Ors → List Token → List Token
  of_ors no_ors ks = ks
  of_ors (more_ors at b os) ks = tok.Or at ∷ of_both b (of_ors os ks)

  pub of_both : Both → List Token → List Token
  of_both (both n ns) ks = of_neg n (of_ands ns ks)

  pub of_ands : Ands → List Token → List Token
  of_ands no_ands ks = ks
  of_ands (more_ands at n ns) ks = tok.And at ∷ of_neg n (of_ands ns ks)

  pub of_neg : Neg → List Token → List Token
  of_neg (negated at n) ks = tok.Not at ∷ of_neg n ks
  of_neg (relation s c) ks = of_sum s (of_compared c ks)

  pub of_compared : Compared → List Token → List Token
  of_compared alone ks = ks
  of_compared (compared r s) ks = of_rel r ∷ of_sum s ks

  pub of_sum : Sum → List Token → List Token
  of_sum (sum p ts) ks = of_product p (of_terms ts ks)

  pub of_terms : Terms → List Token → List Token
  of_terms no_terms ks = ks
  of_terms (more_terms s p ts) ks = of_sign s ∷ of_product p (of_terms ts ks)

  pub of_product : Product → List Token → List Token
  of_product (product f fs) ks = of_factor f (of_factors fs ks)

  pub of_factors : Factors → List Token → List Token
  of_factors no_factors ks = ks
  of_factors (more_factors s f fs) ks = of_scale s ∷ of_factor f (of_factors fs ks)

  pub of_factor : Factor → List Token → List Token
  of_factor (minus at f) ks = tok.Minus at ∷ of_factor f ks
  of_factor (number at n) ks = tok.Number at n ∷ ks
  of_factor (read s) ks = of_spot s ks
  of_factor (parens start e close) ks = tok.Open start ∷ of_expr e (tok.Close close ∷ ks)

  pub of_spot : Spot → List Token → List Token
  of_spot (spot at name i) ks = tok.Name at name ∷ of_index i ks

  pub of_index : Index → List Token → List Token
  of_index no_index ks = ks
  of_index (index start e close) ks = tok.OpenIndex start ∷ of_expr e (tok.CloseIndex close ∷ ks)

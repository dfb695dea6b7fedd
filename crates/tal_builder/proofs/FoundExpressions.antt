-- An expression is found in its tokens, where they stand within the levels that are left and none after them goes on to
-- be of it.
use Rattle.std.proofs.Common.{◌≡◌, ℕ, ◌+◌, ◌≤◌, true, zero, suc, List, [], ◌∷◌, length, Some, None, refl, ap, ◌∙◌}
use Rattle.std.proofs.Common.{arith}
use Rattle.std.specs.Prelude.{option_map}
use Rattle.tal_tokens.specs.declared.token.At.{At}
use Rattle.tal_tokens.specs.declared.token.Token.{Token}
use Rattle.tal_tokens.specs.declared.token.Token.TheVariants as tok
use Rattle.tal_syntax.specs.Grammar as g
use Rattle.tal_syntax.specs.Expected.{AllAtMost}
use Rattle.tal_syntax.specs.Nesting.{nest_expr, nest_ors, nest_both, nest_ands, nest_neg, nest_compared, nest_sum}
use Rattle.tal_syntax.specs.Nesting.{nest_terms, nest_product, nest_factors, nest_factor, nest_spot, nest_index}
use Rattle.tal_builder.specs.declared.plain_token.PlainToken.TheVariants as plain
use Rattle.tal_builder.specs.First.{called_of, string_of, is_value, rel_of, sign_of, scale_of}
use Rattle.tal_builder.specs.PlainTokens.{plain_of}
use Rattle.tal_builder.specs.Parse.{Found, rest_by, rest_after, compared_after, compared_by, relation_by, neg_by}
use Rattle.tal_builder.specs.Parse.{index_after, index_by, factor_in, neg_in, expr_in, factor_at, product_at, sum_at}
use Rattle.tal_builder.specs.Parse.{neg_at, both_at, expr_at, spot_at}
use Rattle.tal_builder.proofs.AfterLevels.{after_both, after_neg, after_sum, after_product, after_factor}
use Rattle.tal_builder.proofs.Sizes.{grows_both, grows_neg, grows_product, grows_factor}
use Rattle.tal_builder.proofs.Steps.{expr-found, both-found, sum-found, product-found, negated-found, minus-found}
use Rattle.tal_builder.proofs.Steps.{parens-found, index-found, relation-found, linked}

-- what follows a part doesn't go on to be of it
abbrev pub QuitsFactor : List Token → Type 0
QuitsFactor ks = (plain_of plain.OpenIndex ks ≡ None) × (plain_of plain.Open ks ≡ None)

abbrev pub QuitsProduct : List Token → Type 0
QuitsProduct ks = QuitsFactor ks × (scale_of ks ≡ None)

abbrev pub QuitsSum : List Token → Type 0
QuitsSum ks = QuitsProduct ks × (sign_of ks ≡ None)

abbrev pub QuitsNeg : List Token → Type 0
QuitsNeg ks = QuitsSum ks × (rel_of ks ≡ None)

abbrev pub QuitsBoth : List Token → Type 0
QuitsBoth ks = QuitsNeg ks × (plain_of plain.And ks ≡ None)

abbrev pub QuitsExpr : List Token → Type 0
QuitsExpr ks = QuitsBoth ks × (plain_of plain.Or ks ≡ None)

quits_factors : (fs : g.Factors) (ks : List Token) → QuitsProduct ks → QuitsFactor (g.of_factors fs ks)
quits_factors g.no_factors ks q = q.0
quits_factors (g.more_factors (g.times at) f fs) ks q = (refl, refl)
quits_factors (g.more_factors (g.over at) f fs) ks q = (refl, refl)

quits_terms : (ts : g.Terms) (ks : List Token) → QuitsSum ks → QuitsProduct (g.of_terms ts ks)
quits_terms g.no_terms ks q = q.0
quits_terms (g.more_terms (g.plus at) p ts) ks q = ((refl, refl), refl)
quits_terms (g.more_terms (g.dash at) p ts) ks q = ((refl, refl), refl)

quits_compared : (c : g.Compared) (ks : List Token) → QuitsNeg ks → QuitsSum (g.of_compared c ks)
quits_compared g.alone ks q = q.0
quits_compared (g.compared (g.equal at) s) ks q = (((refl, refl), refl), refl)
quits_compared (g.compared (g.differs at) s) ks q = (((refl, refl), refl), refl)
quits_compared (g.compared (g.less at) s) ks q = (((refl, refl), refl), refl)
quits_compared (g.compared (g.at_most at) s) ks q = (((refl, refl), refl), refl)
quits_compared (g.compared (g.greater at) s) ks q = (((refl, refl), refl), refl)
quits_compared (g.compared (g.at_least at) s) ks q = (((refl, refl), refl), refl)

quits_ands : (ns : g.Ands) (ks : List Token) → QuitsBoth ks → QuitsNeg (g.of_ands ns ks)
quits_ands g.no_ands ks q = q.0
quits_ands (g.more_ands at n ns) ks q = ((((refl, refl), refl), refl), refl)

quits_ors : (os : g.Ors) (ks : List Token) → QuitsExpr ks → QuitsBoth (g.of_ors os ks)
quits_ors g.no_ors ks q = q.0
quits_ors (g.more_ors at b os) ks q = (((((refl, refl), refl), refl), refl), refl)

-- the signs of chains
scaled : (s : g.Scale) (us : List Token) → scale_of (g.of_scale s ∷ us) ≡ Some (s, us)
scaled (g.times at) us = refl
scaled (g.over at) us = refl

signed : (s : g.Sign) (us : List Token) → sign_of (g.of_sign s ∷ us) ≡ Some (s, us)
signed (g.plus at) us = refl
signed (g.dash at) us = refl

related : (r : g.Rel) (us : List Token) → rel_of (g.of_rel r ∷ us) ≡ Some (r, us)
related (g.equal at) us = refl
related (g.differs at) us = refl
related (g.less at) us = refl
related (g.at_most at) us = refl
related (g.greater at) us = refl
related (g.at_least at) us = refl

-- a sum doesn't begin with NOT
is_relation : (inner : List Token → Found g.Neg) (sum : List Token → Found g.Sum) (s : g.Sum) (ks : List Token)
    → neg_by inner sum (g.of_sum s ks) ≡ relation_by sum (g.of_sum s ks)
is_relation inner sum (g.sum (g.product (g.minus at f) fs) ts) ks = refl
is_relation inner sum (g.sum (g.product (g.number at v) fs) ts) ks = refl
is_relation inner sum (g.sum (g.product (g.read (g.spot at name i)) fs) ts) ks = refl
is_relation inner sum (g.sum (g.product (g.parens start e close) fs) ts) ks = refl

-- how an expression begins
pub begins_value : (e : g.Expr) (ks : List Token) → is_value (g.of_expr e ks) ≡ true
begins_value (g.expr (g.both (g.negated at n) ns) os) ks = refl
begins_value (g.expr (g.both (g.relation (g.sum (g.product (g.minus at f) fs) ts) c) ns) os) ks = refl
begins_value (g.expr (g.both (g.relation (g.sum (g.product (g.number at v) fs) ts) c) ns) os) ks = refl
begins_value (g.expr (g.both (g.relation (g.sum (g.product (g.read (g.spot at name i)) fs) ts) c) ns) os) ks = refl
begins_value (g.expr (g.both (g.relation (g.sum (g.product (g.parens start e close) fs) ts) c) ns) os) ks = refl

pub no_string : (e : g.Expr) (ks : List Token) → string_of (g.of_expr e ks) ≡ None
no_string (g.expr (g.both (g.negated at n) ns) os) ks = refl
no_string (g.expr (g.both (g.relation (g.sum (g.product (g.minus at f) fs) ts) c) ns) os) ks = refl
no_string (g.expr (g.both (g.relation (g.sum (g.product (g.number at v) fs) ts) c) ns) os) ks = refl
no_string (g.expr (g.both (g.relation (g.sum (g.product (g.read (g.spot at name i)) fs) ts) c) ns) os) ks = refl
no_string (g.expr (g.both (g.relation (g.sum (g.product (g.parens start e close) fs) ts) c) ns) os) ks = refl

lone : (at : At) (name : List ℕ) (us : List Token) → plain_of plain.Open us ≡ None
    → called_of (tok.Name at name ∷ us) ≡ None
lone at name [] h = refl
lone at name (tok.Open start ∷ us) h = absurd (cc)
lone at name (k ∷ us) h = refl

pub no_call : (e : g.Expr) (ks : List Token) → QuitsExpr ks → called_of (g.of_expr e ks) ≡ None
no_call (g.expr (g.both (g.negated at n) ns) os) ks q = refl
no_call (g.expr (g.both (g.relation (g.sum (g.product (g.minus at f) fs) ts) c) ns) os) ks q = refl
no_call (g.expr (g.both (g.relation (g.sum (g.product (g.number at v) fs) ts) c) ns) os) ks q = refl
no_call (g.expr (g.both (g.relation (g.sum (g.product (g.read (g.spot at name (g.index start e close))) fs) ts) c) ns)
    os) ks q = refl
no_call (g.expr (g.both (g.relation (g.sum (g.product (g.read (g.spot at name g.no_index)) fs) ts) c) ns) os) ks q =
    let after_and : List Token = g.of_ands ns (g.of_ors os ks) in
    lone at name (g.of_factors fs (g.of_terms ts (g.of_compared c after_and)))
    (quits_factors fs (g.of_terms ts (g.of_compared c after_and))
    (quits_terms ts (g.of_compared c after_and)
    (quits_compared c after_and (quits_ands ns (g.of_ors os ks) (quits_ors os ks q))))).1
no_call (g.expr (g.both (g.relation (g.sum (g.product (g.parens start e close) fs) ts) c) ns) os) ks q = refl

mutual
  pub found_expr : (e : g.Expr) (r n m : ℕ) (ks : List Token) (ls : List ℕ) → m ≤ n + r
      → AllAtMost m (nest_expr n e ls) → QuitsExpr ks → expr_at r (g.of_expr e ks) ≡ Some (e, ks)
  found_expr (g.expr b os) r n m ks ls l a q =
      expr-found (both_at r) (g.of_both b (g.of_ors os ks)) (g.of_ors os ks) ks b os
      (found_both b r n m (g.of_ors os ks) (nest_ors n os ls) l a (quits_ors os ks q))
      (found_ors os r n m ks ls (length (g.of_ors os ks)) (omega arith) l (after_both b n m (nest_ors n os ls) a) q)

  found_ors : (x : g.Ors) (r n m : ℕ) (ks : List Token) (ls : List ℕ) (k : ℕ) → length (g.of_ors x ks) ≤ k → m ≤ n + r
      → AllAtMost m (nest_ors n x ls) → QuitsExpr ks
      → rest_by g.no_ors g.more_ors (plain_of plain.Or) (both_at r) k (g.of_ors x ks) ≡ Some (x, ks)
  found_ors g.no_ors r n m ks ls zero i l a q = refl
  found_ors g.no_ors r n m ks ls (suc k) i l a q =
      ap (rest_after g.no_ors g.more_ors (both_at r) (rest_by g.no_ors g.more_ors (plain_of plain.Or) (both_at r) k) ks)
      q.1
  found_ors (g.more_ors at b os) r n m ks ls zero i l a q = absurd (omega arith)
  found_ors (g.more_ors at b os) r n m ks ls (suc k) i l a q =
      linked g.no_ors g.more_ors (both_at r) (rest_by g.no_ors g.more_ors (plain_of plain.Or) (both_at r) k)
      (g.of_ors (g.more_ors at b os) ks) (g.of_both b (g.of_ors os ks)) (g.of_ors os ks) ks at b os
      (found_both b r n m (g.of_ors os ks) (nest_ors n os ls) l a.1 (quits_ors os ks q))
      (found_ors os r n m ks ls k (omega (arith, grows_both b (g.of_ors os ks))) l
      (after_both b n m (nest_ors n os ls) a.1) q)

  found_both : (b : g.Both) (r n m : ℕ) (ks : List Token) (ls : List ℕ) → m ≤ n + r → AllAtMost m (nest_both n b ls)
      → QuitsBoth ks → both_at r (g.of_both b ks) ≡ Some (b, ks)
  found_both (g.both neg ns) r n m ks ls l a q =
      both-found (neg_at r) (g.of_neg neg (g.of_ands ns ks)) (g.of_ands ns ks) ks neg ns
      (found_neg neg r n m (g.of_ands ns ks) (nest_ands n ns ls) l a (quits_ands ns ks q))
      (found_ands ns r n m ks ls (length (g.of_ands ns ks)) (omega arith) l (after_neg neg n m (nest_ands n ns ls) a) q)

  found_ands : (x : g.Ands) (r n m : ℕ) (ks : List Token) (ls : List ℕ) (k : ℕ) → length (g.of_ands x ks) ≤ k
      → m ≤ n + r → AllAtMost m (nest_ands n x ls) → QuitsBoth ks
      → rest_by g.no_ands g.more_ands (plain_of plain.And) (neg_at r) k (g.of_ands x ks) ≡ Some (x, ks)
  found_ands g.no_ands r n m ks ls zero i l a q = refl
  found_ands g.no_ands r n m ks ls (suc k) i l a q =
      ap (rest_after g.no_ands g.more_ands (neg_at r) (rest_by g.no_ands g.more_ands (plain_of plain.And) (neg_at r) k)
      ks) q.1
  found_ands (g.more_ands at neg ns) r n m ks ls zero i l a q = absurd (omega arith)
  found_ands (g.more_ands at neg ns) r n m ks ls (suc k) i l a q =
      linked g.no_ands g.more_ands (neg_at r) (rest_by g.no_ands g.more_ands (plain_of plain.And) (neg_at r) k)
      (g.of_ands (g.more_ands at neg ns) ks) (g.of_neg neg (g.of_ands ns ks)) (g.of_ands ns ks) ks at neg ns
      (found_neg neg r n m (g.of_ands ns ks) (nest_ands n ns ls) l a.1 (quits_ands ns ks q))
      (found_ands ns r n m ks ls k (omega (arith, grows_neg neg (g.of_ands ns ks))) l
      (after_neg neg n m (nest_ands n ns ls) a.1) q)

  found_neg : (x : g.Neg) (r n m : ℕ) (ks : List Token) (ls : List ℕ) → m ≤ n + r → AllAtMost m (nest_neg n x ls)
      → QuitsNeg ks → neg_at r (g.of_neg x ks) ≡ Some (x, ks)
  found_neg (g.negated at x) zero n m ks ls l a q = absurd (omega (arith, l, a.0))
  found_neg (g.negated at x) (suc r) n m ks ls l a q =
      negated-found (neg_in (suc r)) at (g.of_neg x ks) ks x (found_neg x r (suc n) m ks ls (omega (arith, l)) a.1 q)
  found_neg (g.relation s c) r n m ks ls l a q =
      is_relation (neg_in r) (sum_at r) s (g.of_compared c ks)
      ∙ relation-found (sum_at r) (g.of_sum s (g.of_compared c ks)) (g.of_compared c ks) ks s c
      (found_sum s r n m (g.of_compared c ks) (nest_compared n c ls) l a (quits_compared c ks q))
      (found_compared c r n m ks ls l (after_sum s n m (nest_compared n c ls) a) q)

  found_compared : (c : g.Compared) (r n m : ℕ) (ks : List Token) (ls : List ℕ) → m ≤ n + r
      → AllAtMost m (nest_compared n c ls) → QuitsNeg ks
      → compared_by (sum_at r) (g.of_compared c ks) ≡ Some (c, ks)
  found_compared g.alone r n m ks ls l a q = ap (compared_after (sum_at r) ks) q.1
  found_compared (g.compared rel s) r n m ks ls l a q =
      ap (compared_after (sum_at r) (g.of_compared (g.compared rel s) ks)) (related rel (g.of_sum s ks))
      ∙ ap (option_map (λ s. (g.compared rel s.0, s.1))) (found_sum s r n m ks ls l a.1 q.0)

  found_sum : (s : g.Sum) (r n m : ℕ) (ks : List Token) (ls : List ℕ) → m ≤ n + r → AllAtMost m (nest_sum n s ls)
      → QuitsSum ks → sum_at r (g.of_sum s ks) ≡ Some (s, ks)
  found_sum (g.sum p ts) r n m ks ls l a q =
      sum-found (product_at r) (g.of_product p (g.of_terms ts ks)) (g.of_terms ts ks) ks p ts
      (found_product p r n m (g.of_terms ts ks) (nest_terms n ts ls) l a (quits_terms ts ks q))
      (found_terms ts r n m ks ls (length (g.of_terms ts ks)) (omega arith) l
      (after_product p n m (nest_terms n ts ls) a) q)

  found_terms : (x : g.Terms) (r n m : ℕ) (ks : List Token) (ls : List ℕ) (k : ℕ) → length (g.of_terms x ks) ≤ k
      → m ≤ n + r → AllAtMost m (nest_terms n x ls) → QuitsSum ks
      → rest_by g.no_terms g.more_terms sign_of (product_at r) k (g.of_terms x ks) ≡ Some (x, ks)
  found_terms g.no_terms r n m ks ls zero i l a q = refl
  found_terms g.no_terms r n m ks ls (suc k) i l a q =
      ap (rest_after g.no_terms g.more_terms (product_at r) (rest_by g.no_terms g.more_terms sign_of (product_at r) k)
      ks) q.1
  found_terms (g.more_terms s p ts) r n m ks ls zero i l a q = absurd (omega arith)
  found_terms (g.more_terms s p ts) r n m ks ls (suc k) i l a q =
      ap (rest_after g.no_terms g.more_terms (product_at r) (rest_by g.no_terms g.more_terms sign_of (product_at r) k)
      (g.of_terms (g.more_terms s p ts) ks)) (signed s (g.of_product p (g.of_terms ts ks)))
      ∙ linked g.no_terms g.more_terms (product_at r) (rest_by g.no_terms g.more_terms sign_of (product_at r) k)
      (g.of_terms (g.more_terms s p ts) ks) (g.of_product p (g.of_terms ts ks)) (g.of_terms ts ks) ks s p ts
      (found_product p r n m (g.of_terms ts ks) (nest_terms n ts ls) l a.1 (quits_terms ts ks q))
      (found_terms ts r n m ks ls k (omega (arith, grows_product p (g.of_terms ts ks))) l
      (after_product p n m (nest_terms n ts ls) a.1) q)

  found_product : (p : g.Product) (r n m : ℕ) (ks : List Token) (ls : List ℕ) → m ≤ n + r
      → AllAtMost m (nest_product n p ls) → QuitsProduct ks → product_at r (g.of_product p ks) ≡ Some (p, ks)
  found_product (g.product f fs) r n m ks ls l a q =
      product-found (factor_at r) (g.of_factor f (g.of_factors fs ks)) (g.of_factors fs ks) ks f fs
      (found_factor f r n m (g.of_factors fs ks) (nest_factors n fs ls) l a (quits_factors fs ks q))
      (found_factors fs r n m ks ls (length (g.of_factors fs ks)) (omega arith) l
      (after_factor f n m (nest_factors n fs ls) a) q)

  found_factors : (x : g.Factors) (r n m : ℕ) (ks : List Token) (ls : List ℕ) (k : ℕ) → length (g.of_factors x ks) ≤ k
      → m ≤ n + r → AllAtMost m (nest_factors n x ls) → QuitsProduct ks
      → rest_by g.no_factors g.more_factors scale_of (factor_at r) k (g.of_factors x ks) ≡ Some (x, ks)
  found_factors g.no_factors r n m ks ls zero i l a q = refl
  found_factors g.no_factors r n m ks ls (suc k) i l a q =
      ap (rest_after g.no_factors g.more_factors (factor_at r)
      (rest_by g.no_factors g.more_factors scale_of (factor_at r) k) ks) q.1
  found_factors (g.more_factors s f fs) r n m ks ls zero i l a q = absurd (omega arith)
  found_factors (g.more_factors s f fs) r n m ks ls (suc k) i l a q =
      ap (rest_after g.no_factors g.more_factors (factor_at r)
      (rest_by g.no_factors g.more_factors scale_of (factor_at r) k) (g.of_factors (g.more_factors s f fs) ks))
      (scaled s (g.of_factor f (g.of_factors fs ks)))
      ∙ linked g.no_factors g.more_factors (factor_at r) (rest_by g.no_factors g.more_factors scale_of (factor_at r) k)
      (g.of_factors (g.more_factors s f fs) ks) (g.of_factor f (g.of_factors fs ks)) (g.of_factors fs ks) ks s f fs
      (found_factor f r n m (g.of_factors fs ks) (nest_factors n fs ls) l a.1 (quits_factors fs ks q))
      (found_factors fs r n m ks ls k (omega (arith, grows_factor f (g.of_factors fs ks))) l
      (after_factor f n m (nest_factors n fs ls) a.1) q)

  found_factor : (f : g.Factor) (r n m : ℕ) (ks : List Token) (ls : List ℕ) → m ≤ n + r
      → AllAtMost m (nest_factor n f ls) → QuitsFactor ks → factor_at r (g.of_factor f ks) ≡ Some (f, ks)
  found_factor (g.minus at f) zero n m ks ls l a q = absurd (omega (arith, l, a.0))
  found_factor (g.minus at f) (suc r) n m ks ls l a q =
      minus-found (factor_in (suc r)) at (g.of_factor f ks) ks f
      (found_factor f r (suc n) m ks ls (omega (arith, l)) a.1 q)
  found_factor (g.number at v) r n m ks ls l a q = refl
  found_factor (g.read (g.spot at name i)) r n m ks ls l a q =
      ap (option_map (λ s. (g.read s.0, s.1))) (found_spot (g.spot at name i) r n m ks ls l a q.0)
  found_factor (g.parens start e close) zero n m ks ls l a q = absurd (omega (arith, l, a.0))
  found_factor (g.parens start e close) (suc r) n m ks ls l a q =
      parens-found (expr_in (suc r)) start close (g.of_expr e (tok.Close close ∷ ks)) (tok.Close close ∷ ks) ks e
      (found_expr e r (suc n) m (tok.Close close ∷ ks) (suc n ∷ ls) (omega (arith, l)) a.1
      ((((((refl, refl), refl), refl), refl), refl), refl)) refl

  pub found_spot : (s : g.Spot) (r n m : ℕ) (ks : List Token) (ls : List ℕ) → m ≤ n + r
      → AllAtMost m (nest_spot n s ls) → plain_of plain.OpenIndex ks ≡ None → spot_at r (g.of_spot s ks) ≡ Some (s, ks)
  found_spot (g.spot at name i) r n m ks ls l a q =
      ap (option_map (λ i. (g.spot at name i.0, i.1))) (found_index i r n m ks ls l a.1 q)

  found_index : (i : g.Index) (r n m : ℕ) (ks : List Token) (ls : List ℕ) → m ≤ n + r → AllAtMost m (nest_index n i ls)
      → plain_of plain.OpenIndex ks ≡ None
      → index_by (expr_in r) (g.of_index i ks) ≡ Some (i, ks)
  found_index g.no_index r n m ks ls l a q = ap (index_after (expr_in r) ks) q
  found_index (g.index start e close) zero n m ks ls l a q = absurd (omega (arith, l, a.0))
  found_index (g.index start e close) (suc r) n m ks ls l a q =
      index-found (expr_in (suc r)) start close (tok.OpenIndex start ∷ g.of_expr e (tok.CloseIndex close ∷ ks))
      (g.of_expr e (tok.CloseIndex close ∷ ks)) (tok.CloseIndex close ∷ ks) ks e
      refl (found_expr e r (suc n) m (tok.CloseIndex close ∷ ks) (suc n ∷ ls) (omega (arith, l)) a.1
      ((((((refl, refl), refl), refl), refl), refl), refl)) refl

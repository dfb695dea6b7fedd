-- An expression has the tokens in which it is found, within its levels.
use Rattle.std.proofs.Common.{◌≡◌, ℕ, zero, suc, List, ◌∷◌, length, Some, None, refl, ap, ◌∙◌}
use Rattle.std.specs.Prelude.{option_map}
use Rattle.tal_tokens.specs.declared.token.At.{At}
use Rattle.tal_tokens.specs.declared.token.Token.{Token}
use Rattle.tal_tokens.specs.declared.token.Token.TheVariants as tok
use Rattle.tal_syntax.specs.Grammar as g
use Rattle.tal_syntax.specs.Nesting.{nest_expr, nest_ors, nest_both, nest_ands, nest_neg, nest_compared, nest_sum}
use Rattle.tal_syntax.specs.Nesting.{nest_terms, nest_product, nest_factors, nest_factor, nest_spot, nest_index}
use Rattle.tal_builder.specs.declared.plain_token.PlainToken.TheVariants as plain
use Rattle.tal_builder.specs.First.{rel_of, sign_of, scale_of, name_of}
use Rattle.tal_builder.specs.PlainTokens.{plain_of}
use Rattle.tal_builder.specs.Parse.{Found, ors_by, expr_by, ands_by, both_by, compared_after, compared_by, relation_by}
use Rattle.tal_builder.specs.Parse.{neg_by, terms_by, sum_by, factors_by, product_by, index_after, index_by, spot_by}
use Rattle.tal_builder.specs.Parse.{factor_by, factor_in, neg_in, expr_in, factor_at, product_at, sum_at, neg_at}
use Rattle.tal_builder.specs.Parse.{both_at, expr_at, spot_at}
use Rattle.tal_builder.proofs.Told.{Told, Reads, Within, Below, and_then, mapped, weaker, below, stands, chain}
use Rattle.tal_builder.proofs.SoundTokens.{plain_is, name_is, rel_is, sign_is, scale_is}

module _ (r : ℕ) where
  factors_is : (factor : List Token → Found g.Factor) → Reads g.of_factor (Within nest_factor r) factor
      → Reads g.of_factors (Within nest_factors r) (factors_by factor)
  factors_is factor known ks =
      chain g.no_factors g.more_factors scale_of factor (λ s us. g.of_scale s ∷ us) g.of_factor g.of_factors
      (Within nest_factor r) (Within nest_factors r)
      (record {
        starts = λ us. refl;
        fits = λ n m ls l a. a;
        goes_on = λ s x r us. refl;
        fits_on = λ s x f p q n m ls l a. (stands n r m l, p n m (nest_factors n f ls) l (q n m ls l a));
        signs =
            scale_is;
        parts = known;
      }) (length ks) ks

  product_is : (factor : List Token → Found g.Factor) → Reads g.of_factor (Within nest_factor r) factor
      → Reads g.of_product (Within nest_product r) (product_by factor)
  product_is factor known ks =
      and_then (factor ks) _ (known ks) (λ f p. mapped (factors_by factor f.1) _ (factors_is factor known f.1) (λ t q.
      (ap (g.of_factor f.0) q.0 ∙ p.0, λ n m ls l a. p.1 n m (nest_factors n t.0 ls) l (q.1 n m ls l a))))

  terms_is : (product : List Token → Found g.Product) → Reads g.of_product (Within nest_product r) product
      → Reads g.of_terms (Within nest_terms r) (terms_by product)
  terms_is product known ks =
      chain g.no_terms g.more_terms sign_of product (λ s us. g.of_sign s ∷ us) g.of_product g.of_terms
      (Within nest_product r) (Within nest_terms r)
      (record {
        starts = λ us. refl;
        fits = λ n m ls l a. a;
        goes_on = λ s x r us. refl;
        fits_on = λ s x f p q n m ls l a. (stands n r m l, p n m (nest_terms n f ls) l (q n m ls l a));
        signs =
            sign_is;
        parts = known;
      }) (length ks) ks

  sum_is : (product : List Token → Found g.Product) → Reads g.of_product (Within nest_product r) product
      → Reads g.of_sum (Within nest_sum r) (sum_by product)
  sum_is product known ks =
      and_then (product ks) _ (known ks) (λ f p. mapped (terms_by product f.1) _ (terms_is product known f.1) (λ t q.
      (ap (g.of_product f.0) q.0 ∙ p.0, λ n m ls l a. p.1 n m (nest_terms n t.0 ls) l (q.1 n m ls l a))))

  compared_after_is : (sum : List Token → Found g.Sum) → Reads g.of_sum (Within nest_sum r) sum
      → (ks : List Token) (o : Found g.Rel)
      → Told o (λ p. g.of_rel p.0 ∷ p.1 ≡ ks)
      → Told (compared_after sum ks o) (λ p. (g.of_compared p.0 p.1 ≡ ks) × Within nest_compared r p.0)
  compared_after_is sum known ks None h = record { told = (refl, λ n m ls l a. a) }
  compared_after_is sum known ks (Some (rel, us)) h =
      mapped (sum us) _ (known us) (λ s p. (
        ap (λ ts. g.of_rel rel ∷ ts) p.0
            ∙ h.told,
        λ n m ls l a. (stands n r m l, p.1 n m ls l a),
      ))

  relation_is : (sum : List Token → Found g.Sum) → Reads g.of_sum (Within nest_sum r) sum
      → Reads g.of_neg (Within nest_neg r) (relation_by sum)
  relation_is sum known ks =
      and_then (sum ks) _ (known ks) (λ s p. mapped (compared_by sum s.1) _
      (compared_after_is sum known s.1 (rel_of s.1) (rel_is s.1)) (λ c q.
      (ap (g.of_sum s.0) q.0 ∙ p.0, λ n m ls l a. p.1 n m (nest_compared n c.0 ls) l (q.1 n m ls l a))))

  neg_is : (inner : List Token → Found g.Neg) → Reads g.of_neg (Below nest_neg r) inner
      → (sum : List Token → Found g.Sum) → Reads g.of_sum (Within nest_sum r) sum
      → Reads g.of_neg (Within nest_neg r) (neg_by inner sum)
  neg_is inner deeper sum known (tok.Not at ∷ ks) =
      mapped (inner ks) _ (deeper ks) (λ n p.
      (ap (λ ts. tok.Not at ∷ ts) p.0, λ n m ls l a. ((p.1 n m l).0, (p.1 n m l).1 ls a)))
  neg_is inner deeper sum known ks = relation_is sum known ks

  ands_is : (neg : List Token → Found g.Neg) → Reads g.of_neg (Within nest_neg r) neg
      → Reads g.of_ands (Within nest_ands r) (ands_by neg)
  ands_is neg known ks =
      chain g.no_ands g.more_ands (plain_of plain.And) neg (λ s us. tok.And s ∷ us) g.of_neg g.of_ands
      (Within nest_neg r) (Within nest_ands r)
      (record {
        starts = λ us. refl;
        fits = λ n m ls l a. a;
        goes_on = λ s x r us. refl;
        fits_on = λ s x f p q n m ls l a. (stands n r m l, p n m (nest_ands n f ls) l (q n m ls l a));
        signs =
            plain_is plain.And;
        parts = known;
      }) (length ks) ks

  both_is : (neg : List Token → Found g.Neg) → Reads g.of_neg (Within nest_neg r) neg
      → Reads g.of_both (Within nest_both r) (both_by neg)
  both_is neg known ks =
      and_then (neg ks) _ (known ks) (λ f p. mapped (ands_by neg f.1) _ (ands_is neg known f.1) (λ t q.
      (ap (g.of_neg f.0) q.0 ∙ p.0, λ n m ls l a. p.1 n m (nest_ands n t.0 ls) l (q.1 n m ls l a))))

  ors_is : (both : List Token → Found g.Both) → Reads g.of_both (Within nest_both r) both
      → Reads g.of_ors (Within nest_ors r) (ors_by both)
  ors_is both known ks =
      chain g.no_ors g.more_ors (plain_of plain.Or) both (λ s us. tok.Or s ∷ us) g.of_both g.of_ors (Within nest_both r)
      (Within nest_ors r)
      (record {
        starts = λ us. refl;
        fits = λ n m ls l a. a;
        goes_on = λ s x r us. refl;
        fits_on = λ s x f p q n m ls l a. (stands n r m l, p n m (nest_ors n f ls) l (q n m ls l a));
        signs =
            plain_is plain.Or;
        parts = known;
      }) (length ks) ks

  expr_is_by : (both : List Token → Found g.Both) → Reads g.of_both (Within nest_both r) both
      → Reads g.of_expr (Within nest_expr r) (expr_by both)
  expr_is_by both known ks =
      and_then (both ks) _ (known ks) (λ f p. mapped (ors_by both f.1) _ (ors_is both known f.1) (λ t q.
      (ap (g.of_both f.0) q.0 ∙ p.0, λ n m ls l a. p.1 n m (nest_ors n t.0 ls) l (q.1 n m ls l a))))

  index_after_is : (expr : List Token → Found g.Expr) → Reads g.of_expr (Below nest_expr r) expr
      → (ks : List Token) (o : Found At)
      → Told o (λ p. tok.OpenIndex p.0 ∷ p.1 ≡ ks)
      → Told (index_after expr ks o) (λ p. (g.of_index p.0 p.1 ≡ ks) × Within nest_index r p.0)
  index_after_is expr deeper ks None h = record { told = (refl, λ n m ls l a. a) }
  index_after_is expr deeper ks (Some (start, us)) h =
      and_then (expr us) _ (deeper us) (λ e p.
      mapped (plain_of plain.CloseIndex e.1) _ (plain_is plain.CloseIndex e.1) (λ c q. (
        ap (λ ts. tok.OpenIndex start ∷ g.of_expr e.0 ts) q ∙ ap (λ ts. tok.OpenIndex start ∷ ts) p.0 ∙ h.told,
        λ n m ls l a. ((p.1 n m l).0, (p.1 n m l).1 (suc n ∷ ls) ((p.1 n m l).0, a)),
      )))

  spot_is_by : (expr : List Token → Found g.Expr) → Reads g.of_expr (Below nest_expr r) expr
      → Reads g.of_spot (Within nest_spot r) (spot_by expr)
  spot_is_by expr deeper ks =
      and_then (name_of ks) _ (name_is ks) (λ w p.
      mapped (index_by expr w.1) _ (index_after_is expr deeper w.1 (plain_of plain.OpenIndex w.1)
      (plain_is plain.OpenIndex w.1)) (λ i q.
      (ap (λ ts. tok.Name w.0.0 w.0.1 ∷ ts) q.0 ∙ p, λ n m ls l a. (stands n r m l, q.1 n m ls l a))))

  read_is : (expr : List Token → Found g.Expr) → Reads g.of_expr (Below nest_expr r) expr → (ks : List Token)
      → Told {X = g.Factor × List Token} (option_map (λ s. (g.read s.0, s.1)) (spot_by expr ks))
      (λ p. (g.of_factor p.0 p.1 ≡ ks) × Within nest_factor r p.0)
  read_is expr deeper ks = mapped (spot_by expr ks) (λ s. (g.read s.0, s.1)) (spot_is_by expr deeper ks) (λ s p. p)

  factor_is_by : (inner : List Token → Found g.Factor) → Reads g.of_factor (Below nest_factor r) inner
      → (expr : List Token → Found g.Expr) → Reads g.of_expr (Below nest_expr r) expr
      → Reads g.of_factor (Within nest_factor r) (factor_by inner expr)
  factor_is_by inner known expr deeper (tok.Minus at ∷ ks) =
      mapped (inner ks) _ (known ks) (λ f p. (
        ap (λ ts. tok.Minus at ∷ ts) p.0,
        λ n m ls l a. ((p.1 n m l).0, (p.1 n m l).1 ls a),
      ))
  factor_is_by inner known expr deeper (tok.Number at v ∷ ks) =
      record { told = (refl, λ n m ls l a. (stands n r m l, a)) }
  factor_is_by inner known expr deeper (tok.Open start ∷ ks) =
      and_then (expr ks) _ (deeper ks) (λ e p. mapped (plain_of plain.Close e.1) _ (plain_is plain.Close e.1) (λ c q. (
        ap (λ ts. tok.Open start ∷ g.of_expr e.0 ts) q ∙ ap (λ ts. tok.Open start ∷ ts) p.0,
        λ n m ls l a. ((p.1 n m l).0, (p.1 n m l).1 (suc n ∷ ls) ((p.1 n m l).0, a)),
      )))
  factor_is_by inner known expr deeper ks = read_is expr deeper ks

mutual
  factor_in_is : (r : ℕ) → Reads g.of_factor (Below nest_factor r) (factor_in r)
  factor_in_is zero ks = record { told = tt }
  factor_in_is (suc r) ks =
      weaker (factor_in (suc r) ks) (factor_is_by r (factor_in r) (factor_in_is r) (expr_in r) (expr_in_is r) ks)
      (λ p q. (q.0, below nest_factor r p.0 q.1))

  neg_in_is : (r : ℕ) → Reads g.of_neg (Below nest_neg r) (neg_in r)
  neg_in_is zero ks = record { told = tt }
  neg_in_is (suc r) ks =
      weaker (neg_in (suc r) ks)
      (neg_is r (neg_in r) (neg_in_is r) (sum_by (product_by (factor_by (factor_in r) (expr_in r))))
      (sum_is r (product_by (factor_by (factor_in r) (expr_in r)))
      (product_is r (factor_by (factor_in r) (expr_in r))
      (factor_is_by r (factor_in r) (factor_in_is r) (expr_in r) (expr_in_is r)))) ks)
      (λ p q. (q.0, below nest_neg r p.0 q.1))

  expr_in_is : (r : ℕ) → Reads g.of_expr (Below nest_expr r) (expr_in r)
  expr_in_is zero ks = record { told = tt }
  expr_in_is (suc r) ks =
      weaker (expr_in (suc r) ks)
      (expr_is_by r (both_by (neg_by (neg_in r) (sum_by (product_by (factor_by (factor_in r) (expr_in r))))))
      (both_is r (neg_by (neg_in r) (sum_by (product_by (factor_by (factor_in r) (expr_in r)))))
      (neg_is r (neg_in r) (neg_in_is r) (sum_by (product_by (factor_by (factor_in r) (expr_in r))))
      (sum_is r (product_by (factor_by (factor_in r) (expr_in r)))
      (product_is r (factor_by (factor_in r) (expr_in r))
      (factor_is_by r (factor_in r) (factor_in_is r) (expr_in r) (expr_in_is r)))))) ks)
      (λ p q. (q.0, below nest_expr r p.0 q.1))

pub expr_is : (r : ℕ) → Reads g.of_expr (Within nest_expr r) (expr_at r)
expr_is r =
    expr_is_by r (both_at r) (both_is r (neg_at r) (neg_is r (neg_in r) (neg_in_is r) (sum_at r)
    (sum_is r (product_at r) (product_is r (factor_at r)
    (factor_is_by r (factor_in r) (factor_in_is r) (expr_in r) (expr_in_is r))))))

pub spot_is : (r : ℕ) → Reads g.of_spot (Within nest_spot r) (spot_at r)
spot_is r = spot_is_by r (expr_in r) (expr_in_is r)

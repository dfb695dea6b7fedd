-- The machine takes the tokens of each expression, and its open levels are theirs.
use Rattle.std.proofs.Common.{◌≡◌, suc, List, [], ◌∷◌, Some, refl, ap, ◌∙◌}
use Rattle.tal_tokens.specs.declared.token.Token.{Token}
use Rattle.tal_tokens.specs.declared.token.Token.TheVariants as tok
use Rattle.tal_syntax.specs.Grammar as g
use Rattle.tal_syntax.specs.Nesting.{nest_expr, nest_ors, nest_both, nest_ands, nest_neg, nest_compared, nest_sum}
use Rattle.tal_syntax.specs.Nesting.{nest_terms, nest_product, nest_factors, nest_factor, nest_index}
use Rattle.tal_recogniser.specs.declared.symbol.Symbol.TheVariants as sym
use Rattle.tal_recogniser.specs.ExpressionTable.{Stack, index_step, times_step, term_step, rel_step}
use Rattle.tal_recogniser.specs.Machine.{open_levels, over, trace}
use Rattle.tal_recogniser.proofs.Steps.{QuitsFactor, QuitsProduct, QuitsSum, QuitsNeg, QuitsBoth, QuitsExpr, gives_way}
use Rattle.tal_recogniser.proofs.Steps.{level-ends, taken}

rel-step : (r : g.Rel) → rel_step (g.of_rel r) ≡ Some (sym.Factor ∷ sym.TimesTail ∷ sym.TermTail ∷ [])
rel-step (g.equal at) = refl
rel-step (g.differs at) = refl
rel-step (g.less at) = refl
rel-step (g.at_most at) = refl
rel-step (g.greater at) = refl
rel-step (g.at_least at) = refl

sign-step : (s : g.Sign) → term_step (g.of_sign s) ≡ Some (sym.Factor ∷ sym.TimesTail ∷ sym.TermTail ∷ [])
sign-step (g.plus at) = refl
sign-step (g.dash at) = refl

scale-step : (s : g.Scale) → times_step (g.of_scale s) ≡ Some (sym.Factor ∷ sym.TimesTail ∷ [])
scale-step (g.times at) = refl
scale-step (g.over at) = refl

quits-scale : (s : g.Scale) (ks : List Token) → QuitsFactor (g.of_scale s ∷ ks)
quits-scale (g.times at) ks = refl
quits-scale (g.over at) ks = refl

quits-sign : (s : g.Sign) (ks : List Token) → QuitsProduct (g.of_sign s ∷ ks)
quits-sign (g.plus at) ks = (refl, refl)
quits-sign (g.dash at) ks = (refl, refl)

quits-rel : (r : g.Rel) (ks : List Token) → QuitsSum (g.of_rel r ∷ ks)
quits-rel (g.equal at) ks = ((refl, refl), refl)
quits-rel (g.differs at) ks = ((refl, refl), refl)
quits-rel (g.less at) ks = ((refl, refl), refl)
quits-rel (g.at_most at) ks = ((refl, refl), refl)
quits-rel (g.greater at) ks = ((refl, refl), refl)
quits-rel (g.at_least at) ks = ((refl, refl), refl)

pub quits-factors : (fs : g.Factors) (ks : List Token) → QuitsProduct ks → QuitsFactor (g.of_factors fs ks)
quits-factors g.no_factors ks q = q.0
quits-factors (g.more_factors s f fs) ks q = quits-scale s (g.of_factor f (g.of_factors fs ks))

pub quits-terms : (ts : g.Terms) (ks : List Token) → QuitsSum ks → QuitsProduct (g.of_terms ts ks)
quits-terms g.no_terms ks q = q.0
quits-terms (g.more_terms s p ts) ks q = quits-sign s (g.of_product p (g.of_terms ts ks))

pub quits-compared : (c : g.Compared) (ks : List Token) → QuitsNeg ks → QuitsSum (g.of_compared c ks)
quits-compared g.alone ks q = q.0
quits-compared (g.compared r s) ks q = quits-rel r (g.of_sum s ks)

pub quits-ands : (ns : g.Ands) (ks : List Token) → QuitsBoth ks → QuitsNeg (g.of_ands ns ks)
quits-ands g.no_ands ks q = q.0
quits-ands (g.more_ands at n ns) ks q = (((refl, refl), refl), refl)

pub quits-ors : (os : g.Ors) (ks : List Token) → QuitsExpr ks → QuitsBoth (g.of_ors os ks)
quits-ors g.no_ors ks q = q.0
quits-ors (g.more_ors at b os) ks q = ((((refl, refl), refl), refl), refl)

-- a relation begins as its first factor does
begins : (s : g.Sum) (ss : Stack) (ks : List Token)
    → trace (sym.Neg ∷ ss) (g.of_sum s ks) ≡ trace (sym.Factor ∷ sym.TimesTail ∷ sym.TermTail ∷ sym.RelTail ∷ ss)
    (g.of_sum s ks)
begins (g.sum (g.product (g.minus at f) fs) ts) ss ks = refl
begins (g.sum (g.product (g.number at n) fs) ts) ss ks = refl
begins (g.sum (g.product (g.read (g.spot at name i)) fs) ts) ss ks = refl
begins (g.sum (g.product (g.parens start e close) fs) ts) ss ks = refl

mutual
  pub complete-expr : (e : g.Expr) (ss : Stack) (ks : List Token) → QuitsExpr ks
      → trace (sym.Neg ∷ sym.AndTail ∷ sym.OrTail ∷ ss) (g.of_expr e ks) ≡ over (nest_expr (open_levels ss) e)
      (trace ss ks)
  complete-expr (g.expr b os) ss ks q =
      complete-both b (sym.OrTail ∷ ss) (g.of_ors os ks) (quits-ors os ks q)
      ∙ ap (over (nest_both (open_levels ss) b)) (complete-ors os ss ks q)

  complete-ors : (os : g.Ors) (ss : Stack) (ks : List Token) → QuitsExpr ks
      → trace (sym.OrTail ∷ ss) (g.of_ors os ks) ≡ over (nest_ors (open_levels ss) os) (trace ss ks)
  complete-ors g.no_ors ss ks q = gives_way sym.OrTail ss ks q.1 refl
  complete-ors (g.more_ors at b os) ss ks q =
      ap (over (λ ls. open_levels ss ∷ ls))
      (complete-both b (sym.OrTail ∷ ss) (g.of_ors os ks) (quits-ors os ks q)
      ∙ ap (over (nest_both (open_levels ss) b)) (complete-ors os ss ks q))

  complete-both : (b : g.Both) (ss : Stack) (ks : List Token) → QuitsBoth ks
      → trace (sym.Neg ∷ sym.AndTail ∷ ss) (g.of_both b ks) ≡ over (nest_both (open_levels ss) b) (trace ss ks)
  complete-both (g.both n ns) ss ks q =
      complete-neg n (sym.AndTail ∷ ss) (g.of_ands ns ks) (quits-ands ns ks q)
      ∙ ap (over (nest_neg (open_levels ss) n)) (complete-ands ns ss ks q)

  complete-ands : (ns : g.Ands) (ss : Stack) (ks : List Token) → QuitsBoth ks
      → trace (sym.AndTail ∷ ss) (g.of_ands ns ks) ≡ over (nest_ands (open_levels ss) ns) (trace ss ks)
  complete-ands g.no_ands ss ks q = gives_way sym.AndTail ss ks q.1 refl
  complete-ands (g.more_ands at n ns) ss ks q =
      ap (over (λ ls. open_levels ss ∷ ls))
      (complete-neg n (sym.AndTail ∷ ss) (g.of_ands ns ks) (quits-ands ns ks q)
      ∙ ap (over (nest_neg (open_levels ss) n)) (complete-ands ns ss ks q))

  complete-neg : (n : g.Neg) (ss : Stack) (ks : List Token) → QuitsNeg ks
      → trace (sym.Neg ∷ ss) (g.of_neg n ks) ≡ over (nest_neg (open_levels ss) n) (trace ss ks)
  complete-neg (g.negated at n) ss ks q =
      ap (over (λ ls. suc (open_levels ss) ∷ ls)) (complete-neg n (sym.LevelEnd ∷ ss) ks q)
      ∙ ap (over (nest_neg (open_levels ss) (g.negated at n))) (level-ends rel_step ss ks q.1)
  complete-neg (g.relation s c) ss ks q =
      begins s ss (g.of_compared c ks)
      ∙ complete-sum s (sym.RelTail ∷ ss) (g.of_compared c ks) (quits-compared c ks q)
      ∙ ap (over (nest_sum (open_levels ss) s)) (complete-compared c ss ks q)

  complete-compared : (c : g.Compared) (ss : Stack) (ks : List Token) → QuitsNeg ks
      → trace (sym.RelTail ∷ ss) (g.of_compared c ks) ≡ over (nest_compared (open_levels ss) c) (trace ss ks)
  complete-compared g.alone ss ks q = gives_way sym.RelTail ss ks q.1 refl
  complete-compared (g.compared r s) ss ks q =
      taken sym.RelTail (g.of_rel r) (sym.Factor ∷ sym.TimesTail ∷ sym.TermTail ∷ []) ss (g.of_sum s ks) (rel-step r)
      ∙ ap (over (λ ls. open_levels ss ∷ ls)) (complete-sum s ss ks q.0)

  complete-sum : (s : g.Sum) (ss : Stack) (ks : List Token) → QuitsSum ks
      → trace (sym.Factor ∷ sym.TimesTail ∷ sym.TermTail ∷ ss) (g.of_sum s ks)
      ≡ over (nest_sum (open_levels ss) s) (trace ss ks)
  complete-sum (g.sum p ts) ss ks q =
      complete-product p (sym.TermTail ∷ ss) (g.of_terms ts ks) (quits-terms ts ks q)
      ∙ ap (over (nest_product (open_levels ss) p)) (complete-terms ts ss ks q)

  complete-terms : (ts : g.Terms) (ss : Stack) (ks : List Token) → QuitsSum ks
      → trace (sym.TermTail ∷ ss) (g.of_terms ts ks) ≡ over (nest_terms (open_levels ss) ts) (trace ss ks)
  complete-terms g.no_terms ss ks q = gives_way sym.TermTail ss ks q.1 refl
  complete-terms (g.more_terms s p ts) ss ks q =
      taken sym.TermTail (g.of_sign s) (sym.Factor ∷ sym.TimesTail ∷ sym.TermTail ∷ []) ss
      (g.of_product p (g.of_terms ts ks)) (sign-step s)
      ∙ ap (over (λ ls. open_levels ss ∷ ls))
      (complete-product p (sym.TermTail ∷ ss) (g.of_terms ts ks) (quits-terms ts ks q)
      ∙ ap (over (nest_product (open_levels ss) p)) (complete-terms ts ss ks q))

  complete-product : (p : g.Product) (ss : Stack) (ks : List Token) → QuitsProduct ks
      → trace (sym.Factor ∷ sym.TimesTail ∷ ss) (g.of_product p ks) ≡ over (nest_product (open_levels ss) p)
      (trace ss ks)
  complete-product (g.product f fs) ss ks q =
      complete-factor f (sym.TimesTail ∷ ss) (g.of_factors fs ks) (quits-factors fs ks q)
      ∙ ap (over (nest_factor (open_levels ss) f)) (complete-factors fs ss ks q)

  complete-factors : (fs : g.Factors) (ss : Stack) (ks : List Token) → QuitsProduct ks
      → trace (sym.TimesTail ∷ ss) (g.of_factors fs ks) ≡ over (nest_factors (open_levels ss) fs) (trace ss ks)
  complete-factors g.no_factors ss ks q = gives_way sym.TimesTail ss ks q.1 refl
  complete-factors (g.more_factors s f fs) ss ks q =
      taken sym.TimesTail (g.of_scale s) (sym.Factor ∷ sym.TimesTail ∷ []) ss (g.of_factor f (g.of_factors fs ks))
      (scale-step s)
      ∙ ap (over (λ ls. open_levels ss ∷ ls))
      (complete-factor f (sym.TimesTail ∷ ss) (g.of_factors fs ks) (quits-factors fs ks q)
      ∙ ap (over (nest_factor (open_levels ss) f)) (complete-factors fs ss ks q))

  complete-factor : (f : g.Factor) (ss : Stack) (ks : List Token) → QuitsFactor ks
      → trace (sym.Factor ∷ ss) (g.of_factor f ks) ≡ over (nest_factor (open_levels ss) f) (trace ss ks)
  complete-factor (g.minus at f) ss ks q =
      ap (over (λ ls. suc (open_levels ss) ∷ ls)) (complete-factor f (sym.LevelEnd ∷ ss) ks q)
      ∙ ap (over (nest_factor (open_levels ss) (g.minus at f))) (level-ends index_step ss ks q)
  complete-factor (g.number at n) ss ks q = refl
  complete-factor (g.read (g.spot at name i)) ss ks q = ap (over (λ ls. open_levels ss ∷ ls)) (complete-index i ss ks q)
  complete-factor (g.parens start e close) ss ks q =
      ap (over (λ ls. suc (open_levels ss) ∷ ls))
      (complete-expr e (sym.WantClose ∷ sym.LevelEnd ∷ ss) (tok.Close close ∷ ks)
      (((((refl, refl), refl), refl), refl), refl))
      ∙ ap (over (λ ls. suc (open_levels ss) ∷ nest_expr (suc (open_levels ss)) e (suc (open_levels ss) ∷ ls)))
      (level-ends index_step ss ks q)

  pub complete-index : (i : g.Index) (ss : Stack) (ks : List Token) → QuitsFactor ks
      → trace (sym.IndexTail ∷ ss) (g.of_index i ks) ≡ over (nest_index (open_levels ss) i) (trace ss ks)
  complete-index g.no_index ss ks q = gives_way sym.IndexTail ss ks q refl
  complete-index (g.index start e close) ss ks q =
      ap (over (λ ls. suc (open_levels ss) ∷ ls))
      (complete-expr e (sym.WantCloseIndex ∷ sym.LevelEnd ∷ ss) (tok.CloseIndex close ∷ ks)
      (((((refl, refl), refl), refl), refl), refl))
      ∙ ap (over (λ ls. suc (open_levels ss) ∷ nest_expr (suc (open_levels ss)) e (suc (open_levels ss) ∷ ls)))
      (level-ends index_step ss ks q)

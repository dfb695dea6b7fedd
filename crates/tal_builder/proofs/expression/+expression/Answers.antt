use Rattle.std.proofs.Common.{◌≡◌, ◌-◌, ◌+◌, suc, length, Some, None, refl, sym, ap, ◌∙◌, arith, subst}
use Rattle.tal_syntax.specs.Grammar as g
use Rattle.tal_syntax.specs.Seen.{link_ands, link_factors, link_ors, link_terms, seen_both, seen_factor, seen_neg}
use Rattle.tal_syntax.specs.Seen.{seen_product, seen_scale, seen_sign, seen_expr, seen_ors, seen_ands, seen_terms}
use Rattle.tal_syntax.specs.Seen.{seen_factors, seen_sum, seen_rel}
use Rattle.tal_builder.specs.PlainTokens.{plain_of}
use Rattle.tal_builder.specs.declared.plain_token.PlainToken.TheVariants as plain
use Rattle.tal_builder.specs.First.{rel_of, scale_of, sign_of}
use Rattle.tal_builder.specs.Parse.{both_at, factor_at, neg_at, product_at, sum_at, expr_in, neg_in, factor_in}
use Rattle.tal_builder.proofs.Turns.{ends, turns}
use Rattle.tal_syntax.proofs.SeenSteps.{seen-element, seen-next-both, seen-term}
use Rattle.tal_syntax.specs.declared.expression.NextBoth.{roll-NextBoth}
use Rattle.tal_syntax.specs.declared.expression.Term.{roll-Term}
use Rattle.tal_builder.specs.Outcome.{Tells}
use Rattle.tal_builder.proofs.Steps.{expr-found, both-found, sum-found, product-found, negated-found, minus-found}
use Rattle.tal_builder.proofs.Steps.{parens-found, index-found, relation-goes, alone-found, compared-found}
use Rattle.tal_builder.proofs.expression.+expression.Goals as goal

pub more_boths-returns-in_default : goal.more_boths-returns-in_default
more_boths-returns-in_default t c =
    let none : plain_of plain.Or c.loop-turn.rest.now ≡ None = rw c.in_default.is at c.optional.ensures in
    sym c.loop-turn.invariant
    ∙ ends link_ors g.no_ors g.more_ors (plain_of plain.Or) (both_at c.args.room) c.loop-turn.all
    (length c.args.tokens.now - c.loop-turn._turn) c.loop-turn.rest.now none

pub more_boths-loop-turn-preserved : goal.more_boths-loop-turn-preserved
more_boths-loop-turn-preserved t c =
    let count : length c.args.tokens.now - c.loop-turn._turn
    ≡ suc (length c.args.tokens.now - (c.loop-turn._turn + 1)) = omega (arith, c.loop-turn-test.true) in
    let sign : plain_of plain.Or c.loop-turn.rest.now ≡ Some (c.in-Some.or, c.in-Some.after.now) = c.in-Some.ensures in
    let part : (both_at c.args.room) c.in-Some.after.now ≡ Some (seen_both c.in_ok-both.both, c.in_ok-both.after.now) =
    c.in_ok-both.ensures in
    rw c.in_ok-add_both.ensures
    (sym (turns link_ors g.no_ors g.more_ors (plain_of plain.Or) (both_at c.args.room) c.loop-turn.all _ _
    c.loop-turn.rest.now c.in-Some.after.now c.in_ok-both.after.now
    c.in-Some.or (seen_both c.in_ok-both.both) (roll-NextBoth (record { or = c.in-Some.or; both = c.in_ok-both.both }))
    count sign part (λ r. seen-next-both c.in-Some.or c.in_ok-both.both r)) ∙ c.loop-turn.invariant)

pub more_negs-returns-in_default : goal.more_negs-returns-in_default
more_negs-returns-in_default t c =
    let none : plain_of plain.And c.loop-turn.rest.now ≡ None = rw c.in_default.is at c.optional.ensures in
    sym c.loop-turn.invariant
    ∙ ends link_ands g.no_ands g.more_ands (plain_of plain.And) (neg_at c.args.room) c.loop-turn.all
    (length c.args.tokens.now - c.loop-turn._turn) c.loop-turn.rest.now none

pub more_negs-loop-turn-preserved : goal.more_negs-loop-turn-preserved
more_negs-loop-turn-preserved t c =
    let count : length c.args.tokens.now - c.loop-turn._turn
    ≡ suc (length c.args.tokens.now - (c.loop-turn._turn + 1)) = omega (arith, c.loop-turn-test.true) in
    let sign : plain_of plain.And c.loop-turn.rest.now ≡ Some (c.in-Some.and, c.in-Some.after.now) = c.in-Some.ensures
    in
    let part : (neg_at c.args.room) c.in-Some.after.now ≡ Some (seen_neg c.in_ok-neg.neg, c.in_ok-neg.after.now) =
    c.in_ok-neg.ensures in
    rw c.in_ok-add_neg.ensures
    (sym (turns link_ands g.no_ands g.more_ands (plain_of plain.And) (neg_at c.args.room) c.loop-turn.all _ _
    c.loop-turn.rest.now c.in-Some.after.now c.in_ok-neg.after.now
    c.in-Some.and (seen_neg c.in_ok-neg.neg) (record { and = c.in-Some.and; neg = c.in_ok-neg.neg }) count sign part
    (λ r. refl)) ∙ c.loop-turn.invariant)

pub more_terms-returns-in_default : goal.more_terms-returns-in_default
more_terms-returns-in_default t c =
    let none : sign_of c.loop-turn.rest.now ≡ None = rw c.in_default.is at c.sign_first.ensures in
    sym c.loop-turn.invariant
    ∙ ends link_terms g.no_terms g.more_terms sign_of (product_at c.args.room) c.loop-turn.all
    (length c.args.tokens.now - c.loop-turn._turn) c.loop-turn.rest.now none

pub more_terms-loop-turn-preserved : goal.more_terms-loop-turn-preserved
more_terms-loop-turn-preserved t c =
    let count : length c.args.tokens.now - c.loop-turn._turn
    ≡ suc (length c.args.tokens.now - (c.loop-turn._turn + 1)) = omega (arith, c.loop-turn-test.true) in
    let sign : sign_of c.loop-turn.rest.now ≡ Some ((seen_sign c.in-Some.sign), c.in-Some.after.now) =
    c.in-Some.ensures in
    let part : (product_at c.args.room) c.in-Some.after.now
    ≡ Some (seen_product c.in_ok-product.product, c.in_ok-product.after.now) = c.in_ok-product.ensures in
    rw c.in_ok-add_term.ensures
    (sym (turns link_terms g.no_terms g.more_terms sign_of (product_at c.args.room) c.loop-turn.all _ _
    c.loop-turn.rest.now c.in-Some.after.now c.in_ok-product.after.now
    (seen_sign c.in-Some.sign) (seen_product c.in_ok-product.product)
    (roll-Term (record { sign = c.in-Some.sign; product = c.in_ok-product.product })) count sign part
    (λ r. seen-term c.in-Some.sign c.in_ok-product.product r)) ∙ c.loop-turn.invariant)

pub more_factors-returns-in_default : goal.more_factors-returns-in_default
more_factors-returns-in_default t c =
    let none : scale_of c.loop-turn.rest.now ≡ None = rw c.in_default.is at c.scale_first.ensures in
    sym c.loop-turn.invariant
    ∙ ends link_factors g.no_factors g.more_factors scale_of (factor_at c.args.room) c.loop-turn.all
    (length c.args.tokens.now - c.loop-turn._turn) c.loop-turn.rest.now none

pub more_factors-loop-turn-preserved : goal.more_factors-loop-turn-preserved
more_factors-loop-turn-preserved t c =
    let count : length c.args.tokens.now - c.loop-turn._turn
    ≡ suc (length c.args.tokens.now - (c.loop-turn._turn + 1)) = omega (arith, c.loop-turn-test.true) in
    let sign : scale_of c.loop-turn.rest.now ≡ Some ((seen_scale c.in-Some.scale), c.in-Some.after.now) =
    c.in-Some.ensures in
    let part : (factor_at c.args.room) c.in-Some.after.now
    ≡ Some (seen_factor c.in_ok-factor.factor, c.in_ok-factor.after.now) = c.in_ok-factor.ensures in
    rw c.in_ok-add_factor.ensures
    (sym (turns link_factors g.no_factors g.more_factors scale_of (factor_at c.args.room) c.loop-turn.all _ _
    c.loop-turn.rest.now c.in-Some.after.now c.in_ok-factor.after.now
    (seen_scale c.in-Some.scale) (seen_factor c.in_ok-factor.factor)
    (record { scale = c.in-Some.scale; factor = c.in_ok-factor.factor }) count sign part (λ r. refl))
    ∙ c.loop-turn.invariant)

pub expr-returns : goal.expr-returns
expr-returns t c =
    expr-found (both_at c.args.room) c.args.tokens.now c.in_ok-first.after.now c.in_ok-more.rest.now
    (seen_both c.in_ok-first.first) (seen_ors c.in_ok-more.more)
    c.in_ok-first.ensures c.in_ok-more.ensures
    ∙ ap (λ e. Some (e, c.in_ok-more.rest.now)) (sym c.in_ok-expr.ensures)

pub both-returns : goal.both-returns
both-returns t c =
    both-found (neg_at c.args.room) c.args.tokens.now c.in_ok-first.after.now c.in_ok-more.rest.now
    (seen_neg c.in_ok-first.first) (seen_ands c.in_ok-more.more)
    c.in_ok-first.ensures c.in_ok-more.ensures
    ∙ ap (λ e. Some (e, c.in_ok-more.rest.now)) (sym c.in_ok-both.ensures)

pub sum-returns : goal.sum-returns
sum-returns t c =
    sum-found (product_at c.args.room) c.args.tokens.now c.in_ok-first.after.now c.in_ok-more.rest.now
    (seen_product c.in_ok-first.first) (seen_terms c.in_ok-more.more)
    c.in_ok-first.ensures c.in_ok-more.ensures
    ∙ ap (λ e. Some (e, c.in_ok-more.rest.now)) (sym c.in_ok-sum.ensures)

pub product-returns : goal.product-returns
product-returns t c =
    product-found (factor_at c.args.room) c.args.tokens.now c.in_ok-first.after.now c.in_ok-more.rest.now
    (seen_factor c.in_ok-first.first) (seen_factors c.in_ok-more.more)
    c.in_ok-first.ensures c.in_ok-more.ensures
    ∙ ap (λ e. Some (e, c.in_ok-more.rest.now)) (sym c.in_ok-product.ensures)

pub relation-returns : goal.relation-returns
relation-returns t c =
    subst (λ found. Tells (λ r. (seen_neg r.0, r.1.now)) c.compared.result found)
    (sym (relation-goes (sum_at c.args.room) c.args.tokens.now c.in_ok-left.after.now (seen_sum c.in_ok-left.left)
    c.in_ok-left.ensures)) c.compared.ensures

pub compared-returns-in_default : goal.compared-returns-in_default
compared-returns-in_default t c =
    let none : rel_of c.args.tokens.now ≡ None = rw c.in_default.is at c.rel_first.ensures in
    alone-found (sum_at c.args.room) c.args.tokens.now (seen_sum c.args.left) none
    ∙ ap (λ n. Some (n, c.args.tokens.now)) (sym c.in_ok-neg.ensures)

pub compared-returns : goal.compared-returns
compared-returns t c =
    compared-found (sum_at c.args.room) c.args.tokens.now c.in-Some.after.now c.in_ok-right.rest.now
    (seen_sum c.args.left) (seen_rel c.in-Some.rel) (seen_sum c.in_ok-right.right)
    c.in-Some.ensures c.in_ok-right.ensures
    ∙ ap (λ n. Some (n, c.in_ok-right.rest.now)) (sym c.in_ok-neg-2.ensures)

pub negation-returns : goal.negation-returns
negation-returns t c =
    negated-found (neg_in c.args.room) c.args.at c.args.tokens.now c.in_ok-inner.rest.now
    (seen_neg c.in_ok-inner.inner) c.in_ok-inner.ensures
    ∙ ap (λ n. Some (n, c.in_ok-inner.rest.now)) (sym c.in_ok-neg.ensures)

pub negative-returns : goal.negative-returns
negative-returns t c =
    minus-found (factor_in c.args.room) c.args.at c.args.tokens.now c.in_ok-inner.rest.now
    (seen_factor c.in_ok-inner.inner) c.in_ok-inner.ensures
    ∙ ap (λ f. Some (f, c.in_ok-inner.rest.now)) (sym c.in_ok-factor.ensures)

pub parens-returns : goal.parens-returns
parens-returns t c =
    parens-found (expr_in c.args.room) c.args.start c.in_ok-close.close c.args.tokens.now c.in_ok-inner.after.now
    c.in_ok-close.rest.now (seen_expr c.in_ok-inner.inner)
    c.in_ok-inner.ensures c.in_ok-close.ensures
    ∙ ap (λ f. Some (f, c.in_ok-close.rest.now)) (sym c.in_ok-factor.ensures)

pub index-returns : goal.index-returns
index-returns t c =
    index-found (expr_in c.args.room) c.in-Some.start c.in_ok-close.close c.args.tokens.now c.in-Some.after.now
    c.in_ok-inner.after.now c.in_ok-close.rest.now
    (seen_expr c.in_ok-inner.inner) c.in-Some.ensures c.in_ok-inner.ensures c.in_ok-close.ensures
    ∙ ap (λ i. Some (i, c.in_ok-close.rest.now))
    (sym (seen-element c.in-Some.start c.in_ok-inner.inner c.in_ok-close.close))

pub expr_within-returns : goal.expr_within-returns
expr_within-returns t c =
    let next : suc (c.args.room - 1) ≡ c.args.room = omega (arith, c.if-room-eq0.false) in
    subst (λ n. Tells (λ r. (seen_expr r.0, r.1.now)) c.expr.result (expr_in n c.args.tokens.now)) next c.expr.ensures

pub neg_within-returns : goal.neg_within-returns
neg_within-returns t c =
    let next : suc (c.args.room - 1) ≡ c.args.room = omega (arith, c.if-room-eq0.false) in
    subst (λ n. Tells (λ r. (seen_neg r.0, r.1.now)) c.neg.result (neg_in n c.args.tokens.now)) next c.neg.ensures

pub factor_within-returns : goal.factor_within-returns
factor_within-returns t c =
    let next : suc (c.args.room - 1) ≡ c.args.room = omega (arith, c.if-room-eq0.false) in
    subst (λ n. Tells (λ r. (seen_factor r.0, r.1.now)) c.factor.result (factor_in n c.args.tokens.now)) next
    c.factor.ensures

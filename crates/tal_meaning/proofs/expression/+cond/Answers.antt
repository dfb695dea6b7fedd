use Rattle.std.proofs.Common.{◌≡◌, [], refl, ap, ◌∙◌}
use Rattle.std.proofs.lemmas.List.{nil_from_length}
use Rattle.tal_syntax.specs.Grammar as g
use Rattle.tal_syntax.specs.Seen.{seen_expr, seen_factor, seen_neg, seen_ors, seen_ands}
use Rattle.tal_syntax.proofs.SeenSteps.{expr-open, both-open, sum-open, product-open, seen-not, seen-parens}
use Rattle.tal_meaning.specs.Expressions.{cond_of_ors, cond_of_ands}
use Rattle.tal_names.proofs.Turns.{ended_after}
use Rattle.tal_meaning.proofs.expression.+cond.Goals as goal

pub cond_of_expr-returns : goal.cond_of_expr-returns
cond_of_expr-returns t c =
    let whole : c.loop-next.left ≡ _ = ended_after (λ d ns. cond_of_ors c.args.scope.now d (seen_ors ns)) (λ d. refl)
    c.as_slice-more.result.now c.loop-next.next-index c.loop-next.left _ c.loop-next-test.false
    c.loop-next.invariant in
    rw (whole, c.in_ok-left.ensures, c.as_slice-more.ensures, expr-open c.args.expr.now) refl

pub cond_of_both-returns : goal.cond_of_both-returns
cond_of_both-returns t c =
    let whole : c.loop-next.left ≡ _ = ended_after (λ d ns. cond_of_ands c.args.scope.now d (seen_ands ns)) (λ d. refl)
    c.as_slice-more.result.now c.loop-next.next-index c.loop-next.left _ c.loop-next-test.false
    c.loop-next.invariant in
    rw (whole, c.in_ok-left.ensures, c.as_slice-more.ensures, both-open c.args.both.now) refl

pub cond_of_factor-returns-in-Parens : goal.cond_of_factor-returns-in-Parens
cond_of_factor-returns-in-Parens t c =
    let seen : seen_factor c.args.factor.now
    ≡ g.parens c.in-Parens.field-0 (seen_expr c.in-Parens.inner) c.in-Parens.field-2 =
    ap seen_factor c.in-Parens.is ∙ seen-parens c.in-Parens.field-0 c.in-Parens.inner c.in-Parens.field-2 in
    rw (seen, ← c.get.ensures) c.cond_of_expr.ensures

pub cond_of_neg-returns-in_ok-inner-in-Not-2 : goal.cond_of_neg-returns-in_ok-inner-in-Not-2
cond_of_neg-returns-in_ok-inner-in-Not-2 t c =
    let seen : seen_neg c.args.neg.now ≡ g.negated c.in-Not.field-0 (seen_neg c.in-Not.inner) =
    ap seen_neg c.in-Not.is ∙ seen-not c.in-Not.field-0 c.in-Not.inner in
    rw (seen, c.in_ok-inner-in-Not-2.ensures, c.in_ok-inner-in-Not.ensures, c.get.ensures) refl

pub cond_of_sum-returns-in-None : goal.cond_of_sum-returns-in-None
cond_of_sum-returns-in-None t c =
    let none : c.as_slice.result.now ≡ [] = nil_from_length c.as_slice.result.now c.in-None.ensures.cases in
    rw (sum-open c.args.sum.now, ← c.as_slice.ensures, none) c.cond_of_product.ensures

pub cond_of_sum-returns-in_ok-value-in-Some : goal.cond_of_sum-returns-in_ok-value-in-Some
cond_of_sum-returns-in_ok-value-in-Some t c =
    rw (c.in_ok-value-in-Some.ensures, sum-open c.args.sum.now, ← c.as_slice.ensures, c.in-Some.ensures.cases.0) refl

pub cond_of_product-returns-in-None : goal.cond_of_product-returns-in-None
cond_of_product-returns-in-None t c =
    let none : c.as_slice.result.now ≡ [] = nil_from_length c.as_slice.result.now c.in-None.ensures.cases in
    rw (product-open c.args.product.now, ← c.as_slice.ensures, none) c.cond_of_factor.ensures

pub cond_of_product-returns-in_ok-value-in-Some : goal.cond_of_product-returns-in_ok-value-in-Some
cond_of_product-returns-in_ok-value-in-Some t c =
    rw (
      c.in_ok-value-in-Some.ensures,
      product-open c.args.product.now,
      ← c.as_slice.ensures,
      c.in-Some.ensures.cases.0,
    ) refl

use Rattle.std.proofs.Common.{◌≡◌, refl, ap, ◌∙◌}
use Rattle.tal_syntax.specs.Grammar as g
use Rattle.tal_syntax.specs.Seen.{seen_index, seen_expr, seen_factor, seen_factors, seen_terms}
use Rattle.tal_syntax.proofs.SeenSteps.{expr-open, both-open, sum-open, product-open, seen-minus, seen-parens}
use Rattle.tal_syntax.proofs.SeenSteps.{seen-element}
use Rattle.tal_meaning.specs.Expressions.{value_of_terms, value_of_factors}
use Rattle.tal_names.proofs.Turns.{ended_after}
use Rattle.tal_meaning.proofs.expression.+value.Goals as goal

pub value_of_expr-returns : goal.value_of_expr-returns
value_of_expr-returns t c = rw (expr-open c.args.expr.now) c.value_of_both.ensures

pub value_of_both-returns : goal.value_of_both-returns
value_of_both-returns t c = rw (both-open c.args.both.now) c.value_of_neg.ensures

pub value_of_sum-returns : goal.value_of_sum-returns
value_of_sum-returns t c =
    let whole : c.loop-term.left ≡ _ = ended_after (λ d ns. value_of_terms c.args.scope.now d (seen_terms ns))
    (λ d. refl) c.as_slice-more.result.now c.loop-term.term-index c.loop-term.left _ c.loop-term-test.false
    c.loop-term.invariant in
    rw (whole, c.in_ok-left.ensures, c.as_slice-more.ensures, sum-open c.args.sum.now) refl

pub value_of_product-returns : goal.value_of_product-returns
value_of_product-returns t c =
    let whole : c.loop-next.left ≡ _ = ended_after (λ d ns. value_of_factors c.args.scope.now d (seen_factors ns))
    (λ d. refl) c.as_slice-more.result.now c.loop-next.next-index c.loop-next.left _ c.loop-next-test.false
    c.loop-next.invariant in
    rw (whole, c.in_ok-left.ensures, c.as_slice-more.ensures, product-open c.args.product.now) refl

pub value_of_factor-returns-in_ok-inner-in-Minus-2 : goal.value_of_factor-returns-in_ok-inner-in-Minus-2
value_of_factor-returns-in_ok-inner-in-Minus-2 t c =
    let seen : seen_factor c.args.factor.now ≡ g.minus c.in-Minus.field-0 (seen_factor c.in-Minus.inner) =
    ap seen_factor c.in-Minus.is ∙ seen-minus c.in-Minus.field-0 c.in-Minus.inner in
    rw (seen, c.in_ok-inner-in-Minus-2.ensures, c.in_ok-inner-in-Minus.ensures, c.get.ensures) refl

pub value_of_factor-returns-in-Parens : goal.value_of_factor-returns-in-Parens
value_of_factor-returns-in-Parens t c =
    let seen : seen_factor c.args.factor.now
    ≡ g.parens c.in-Parens.field-0 (seen_expr c.in-Parens.inner) c.in-Parens.field-2 =
    ap seen_factor c.in-Parens.is ∙ seen-parens c.in-Parens.field-0 c.in-Parens.inner c.in-Parens.field-2 in
    rw (seen, ← c.get-in-Parens.ensures) c.value_of_expr.ensures

pub value_of_index-returns-in_ok-inner-in-Element : goal.value_of_index-returns-in_ok-inner-in-Element
value_of_index-returns-in_ok-inner-in-Element t c =
    let seen : seen_index c.args.index.now ≡ g.index c.in-Element.field-0 (seen_expr c.in-Element.inner)
    c.in-Element.field-2 =
    ap seen_index c.in-Element.is ∙ seen-element c.in-Element.field-0 c.in-Element.inner c.in-Element.field-2 in
    rw (seen, c.in_ok-inner-in-Element.ensures, c.get.ensures) refl

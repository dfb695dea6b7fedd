use Rattle.std.proofs.Common.{◌≡◌, refl, ap, ◌∙◌}
use Rattle.tal_syntax.specs.declared.expression.NextBoth.{out-NextBoth}
use Rattle.tal_syntax.specs.declared.expression.Term.{out-Term}
use Rattle.tal_syntax.specs.Grammar as g
use Rattle.tal_syntax.specs.Seen.{seen_index, seen_expr, seen_factor, seen_factors, seen_product, seen_terms, seen_neg}
use Rattle.tal_syntax.specs.Seen.{seen_ands, seen_both, seen_ors}
use Rattle.tal_syntax.proofs.SeenSteps.{expr-open, both-open, sum-open, product-open, seen-not, seen-minus, seen-parens}
use Rattle.tal_syntax.proofs.SeenSteps.{seen-element}
use Rattle.tal_names.specs.declared.meaning.Wanted.TheVariants.{Condition, Value}
use Rattle.tal_rules.specs.Expressions.{both_faults, ors_faults, neg_faults, ands_faults, product_faults, terms_faults}
use Rattle.tal_rules.specs.Expressions.{factor_faults, factors_faults}
use Rattle.tal_names.specs.Places.{first_of_product, first_of_factor}
use Rattle.tal_names.proofs.Parts.{least-append}
use Rattle.tal_names.proofs.Turns.{turn, ended}
use Rattle.tal_rules.proofs.expression.+judge.Goals as goal

pub judge_both-loop-next-preserved : goal.judge_both-loop-next-preserved
judge_both-loop-next-preserved t c =
    turn (λ ns. ands_faults c.args.scope.now (seen_ands ns))
    (λ n. neg_faults c.args.scope.now Condition (seen_neg n.neg)) (λ n ns. refl)
    c.as_slice-more.result.now c.loop-next.next-index c.next-item.result c.loop-next.so_far
    c.judge_neg-so_far-in-loop-next.result _
    c.next-item.is c.loop-next-test.true c.judge_neg-so_far-in-loop-next.ensures c.loop-next.invariant

pub judge_both-returns : goal.judge_both-returns
judge_both-returns t c =
    let whole : c.loop-next.so_far ≡ _ = ended (λ ns. ands_faults c.args.scope.now (seen_ands ns)) refl
    c.as_slice-more.result.now c.loop-next.next-index c.loop-next.so_far _ c.loop-next-test.false
    c.loop-next.invariant in
    rw (
      whole,
      c.judge_neg-so_far.ensures,
      c.wanted_by_ands.ensures,
      c.judge_ands-so_far.ensures,
      c.as_slice-more.ensures,
      both-open c.args.both.now,
      least-append,
      least-append,
    ) refl

pub judge_expr-loop-next-preserved : goal.judge_expr-loop-next-preserved
judge_expr-loop-next-preserved t c =
    turn (λ ns. ors_faults c.args.scope.now (seen_ors ns))
    (λ n. both_faults c.args.scope.now Condition (seen_both (out-NextBoth n).both)) (λ n ns. refl)
    c.as_slice-more.result.now c.loop-next.next-index c.next-item.result c.loop-next.so_far
    c.judge_both-so_far-in-loop-next.result _
    c.next-item.is c.loop-next-test.true c.judge_both-so_far-in-loop-next.ensures c.loop-next.invariant

pub judge_expr-returns : goal.judge_expr-returns
judge_expr-returns t c =
    let whole : c.loop-next.so_far ≡ _ = ended (λ ns. ors_faults c.args.scope.now (seen_ors ns)) refl
    c.as_slice-more.result.now c.loop-next.next-index c.loop-next.so_far _ c.loop-next-test.false
    c.loop-next.invariant in
    rw (
      whole,
      c.judge_both-so_far.ensures,
      c.wanted_by_ors.ensures,
      c.judge_ors-so_far.ensures,
      c.as_slice-more.ensures,
      expr-open c.args.expr.now,
      least-append,
      least-append,
    ) refl

pub judge_factor-returns-in-Minus : goal.judge_factor-returns-in-Minus
judge_factor-returns-in-Minus t c =
    let seen : seen_factor c.args.factor.now ≡ g.minus c.in-Minus.field-0 (seen_factor c.in-Minus.inner) =
    ap seen_factor c.in-Minus.is ∙ seen-minus c.in-Minus.field-0 c.in-Minus.inner in
    rw (seen, c.judge_factor.ensures, c.at_of_factor.ensures, c.get-inner.ensures) refl

pub judge_factor-returns-in-Parens : goal.judge_factor-returns-in-Parens
judge_factor-returns-in-Parens t c =
    let seen : seen_factor c.args.factor.now
    ≡ g.parens c.in-Parens.field-0 (seen_expr c.in-Parens.inner) c.in-Parens.field-2 =
    ap seen_factor c.in-Parens.is ∙ seen-parens c.in-Parens.field-0 c.in-Parens.inner c.in-Parens.field-2 in
    rw (seen, c.judge_expr.ensures, c.get.ensures) refl

pub judge_index-returns-in-Element : goal.judge_index-returns-in-Element
judge_index-returns-in-Element t c =
    let seen : seen_index c.args.index.now ≡ g.index c.in-Element.field-0 (seen_expr c.in-Element.inner)
    c.in-Element.field-2 =
    ap seen_index c.in-Element.is ∙ seen-element c.in-Element.field-0 c.in-Element.inner c.in-Element.field-2 in
    rw (seen, c.judge_expr.ensures, c.at_of_expr.ensures, c.get-inner.ensures) refl

pub judge_neg-returns-in-Not : goal.judge_neg-returns-in-Not
judge_neg-returns-in-Not t c =
    let seen : seen_neg c.args.neg.now ≡ g.negated c.in-Not.field-0 (seen_neg c.in-Not.inner) =
    ap seen_neg c.in-Not.is ∙ seen-not c.in-Not.field-0 c.in-Not.inner in
    rw (seen, least-append, c.judge_neg.ensures, c.misplaced-so_far.ensures, c.get.ensures) refl

pub judge_product-loop-next-preserved : goal.judge_product-loop-next-preserved
judge_product-loop-next-preserved t c =
    turn (λ ns. factors_faults c.args.scope.now (seen_factors ns))
    (λ n. factor_faults c.args.scope.now (Value (first_of_factor (seen_factor n.factor))) (seen_factor n.factor))
    (λ n ns. refl)
    c.as_slice-more.result.now c.loop-next.next-index c.next-item.result c.loop-next.so_far
    c.judge_factor-so_far-in-loop-next.result _
    c.next-item.is c.loop-next-test.true (rw (← c.at_of_factor-at.ensures) c.judge_factor-so_far-in-loop-next.ensures)
    c.loop-next.invariant

pub judge_product-returns : goal.judge_product-returns
judge_product-returns t c =
    let whole : c.loop-next.so_far ≡ _ = ended (λ ns. factors_faults c.args.scope.now (seen_factors ns)) refl
    c.as_slice-more.result.now c.loop-next.next-index c.loop-next.so_far _ c.loop-next-test.false
    c.loop-next.invariant in
    rw (
      whole,
      c.judge_factor-so_far.ensures,
      c.wanted_by_factors-wanted.ensures,
      c.at_of_factor.ensures,
      c.as_slice-more.ensures,
      product-open c.args.product.now,
      least-append,
    ) refl

pub judge_sum-loop-term-preserved : goal.judge_sum-loop-term-preserved
judge_sum-loop-term-preserved t c =
    turn (λ ns. terms_faults c.args.scope.now (seen_terms ns))
    (λ n. product_faults c.args.scope.now (Value (first_of_product (seen_product (out-Term n).product)))
    (seen_product (out-Term n).product)) (λ n ns. refl)
    c.as_slice-more.result.now c.loop-term.term-index c.term-item.result c.loop-term.so_far
    c.judge_product-so_far-in-loop-term.result _
    c.term-item.is c.loop-term-test.true (rw (← c.at_of_product-at.ensures)
    c.judge_product-so_far-in-loop-term.ensures) c.loop-term.invariant

pub judge_sum-returns : goal.judge_sum-returns
judge_sum-returns t c =
    let whole : c.loop-term.so_far ≡ _ = ended (λ ns. terms_faults c.args.scope.now (seen_terms ns)) refl
    c.as_slice-more.result.now c.loop-term.term-index c.loop-term.so_far _ c.loop-term-test.false
    c.loop-term.invariant in
    rw (
      whole,
      c.judge_product-so_far.ensures,
      c.wanted_by_terms-wanted.ensures,
      c.at_of_product.ensures,
      c.as_slice-more.ensures,
      sum-open c.args.sum.now,
      least-append,
    ) refl

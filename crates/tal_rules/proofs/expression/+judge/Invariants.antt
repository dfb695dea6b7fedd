use Rattle.std.proofs.Common.{◌≡◌, drop}
use Rattle.tal_rules.specs.Expressions.{ors_faults, ands_faults, terms_faults, factors_faults}
use Rattle.tal_names.specs.Faults.{least}
use Rattle.tal_syntax.specs.Seen.{seen_factors, seen_terms, seen_ands, seen_ors}
use Rattle.tal_rules.proofs.expression.+judge.Given as goal

-- with the operands that are left the least so far is that of all
abbrev pub invariant-judge_both-loop-next : goal.invariant-judge_both-loop-next
invariant-judge_both-loop-next l = least l.so_far (ands_faults l.scope (seen_ands (drop l.next-index l.more)))
    ≡ least l.initial.so_far (ands_faults l.scope (seen_ands l.more))

abbrev pub invariant-judge_expr-loop-next : goal.invariant-judge_expr-loop-next
invariant-judge_expr-loop-next l = least l.so_far (ors_faults l.scope (seen_ors (drop l.next-index l.more)))
    ≡ least l.initial.so_far (ors_faults l.scope (seen_ors l.more))

abbrev pub invariant-judge_product-loop-next : goal.invariant-judge_product-loop-next
invariant-judge_product-loop-next l = least l.so_far (factors_faults l.scope (seen_factors (drop l.next-index l.more)))
    ≡ least l.initial.so_far (factors_faults l.scope (seen_factors l.more))

abbrev pub invariant-judge_sum-loop-term : goal.invariant-judge_sum-loop-term
invariant-judge_sum-loop-term l = least l.so_far (terms_faults l.scope (seen_terms (drop l.term-index l.more)))
    ≡ least l.initial.so_far (terms_faults l.scope (seen_terms l.more))

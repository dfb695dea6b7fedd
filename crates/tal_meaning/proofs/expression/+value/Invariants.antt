use Rattle.std.proofs.Common.{◌≡◌, drop}
use Rattle.tal_meaning.specs.Expressions.{value_of_terms, value_of_factors}
use Rattle.tal_syntax.specs.Seen.{seen_terms, seen_factors}
use Rattle.tal_meaning.proofs.expression.+value.Given as goal

-- with the operands that are left the value so far becomes that of the chain
abbrev pub invariant-value_of_product-loop-next : goal.invariant-value_of_product-loop-next
invariant-value_of_product-loop-next l =
    value_of_factors l.scope l.left (seen_factors (drop l.next-index l.more))
    ≡ value_of_factors l.scope l.initial.left (seen_factors l.more)

abbrev pub invariant-value_of_sum-loop-term : goal.invariant-value_of_sum-loop-term
invariant-value_of_sum-loop-term l = value_of_terms l.scope l.left (seen_terms (drop l.term-index l.more))
    ≡ value_of_terms l.scope l.initial.left (seen_terms l.more)

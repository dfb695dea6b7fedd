use Rattle.std.proofs.Common.{◌≡◌, drop}
use Rattle.tal_meaning.specs.Expressions.{cond_of_ors, cond_of_ands}
use Rattle.tal_syntax.specs.Seen.{seen_ors, seen_ands}
use Rattle.tal_meaning.proofs.expression.+cond.Given as goal

-- with the operands that are left the condition so far becomes that of the chain
abbrev pub invariant-cond_of_both-loop-next : goal.invariant-cond_of_both-loop-next
invariant-cond_of_both-loop-next l = cond_of_ands l.scope l.left (seen_ands (drop l.next-index l.more))
    ≡ cond_of_ands l.scope l.initial.left (seen_ands l.more)

abbrev pub invariant-cond_of_expr-loop-next : goal.invariant-cond_of_expr-loop-next
invariant-cond_of_expr-loop-next l = cond_of_ors l.scope l.left (seen_ors (drop l.next-index l.more))
    ≡ cond_of_ors l.scope l.initial.left (seen_ors l.more)

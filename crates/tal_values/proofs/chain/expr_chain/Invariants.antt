use Rattle.std.proofs.Common.{◌≡◌}
use Rattle.tal_values.specs.Chain.{with_tails}
use Rattle.tal_values.proofs.chain.expr_chain.Given as goal

abbrev pub invariant-loop-rest : goal.invariant-loop-rest
invariant-loop-rest l = with_tails l.rest l.tails.items ≡ l.fn.expr

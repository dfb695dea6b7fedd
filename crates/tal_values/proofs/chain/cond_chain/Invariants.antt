use Rattle.std.proofs.Common.{◌≡◌}
use Rattle.tal_values.specs.Chain.{with_links}
use Rattle.tal_values.proofs.chain.cond_chain.Given as goal

abbrev pub invariant-loop-rest : goal.invariant-loop-rest
invariant-loop-rest l = with_links l.rest l.links.items ≡ l.fn.cond

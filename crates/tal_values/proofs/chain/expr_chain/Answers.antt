use Rattle.tal_values.proofs.ChainSteps.{chained_down}
use Rattle.tal_values.proofs.chain.expr_chain.Goals as goal

pub loop-rest-preserved : goal.loop-rest-preserved
loop-rest-preserved c =
    chained_down c.loop-rest.tails.items (record { op = c.in-Two.op; right = c.get-right.result })
    c.in_ok-push-in-Two.ensures.items c.get-rest.ensures c.get-right.ensures
    c.in-Two.is c.loop-rest.invariant

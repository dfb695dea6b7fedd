use Rattle.tal_values.specs.declared.chain.Junction.TheVariants.{And, Or}
use Rattle.tal_values.proofs.ChainSteps.{linked_down}
use Rattle.tal_values.proofs.chain.cond_chain.Goals as goal

pub loop-rest-preserved-in-And : goal.loop-rest-preserved-in-And
loop-rest-preserved-in-And c =
    linked_down c.loop-rest.links.items (record { junction = And; right = c.get-right.result })
    c.in_ok-push-in-And.ensures.items c.get-rest.ensures c.get-right.ensures
    c.in-And.is c.loop-rest.invariant

pub loop-rest-preserved : goal.loop-rest-preserved
loop-rest-preserved c =
    linked_down c.loop-rest.links.items (record { junction = Or; right = c.get-right-in-Or.result })
    c.in_ok-push-in-Or.ensures.items c.get-rest-in-Or.ensures
    c.get-right-in-Or.ensures c.in-Or.is c.loop-rest.invariant

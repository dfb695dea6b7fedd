use Rattle.site_advice.proofs.Places.{more-gathered}
use Rattle.site_advice.proofs.pairs.advise_all.Goals as goal

pub loop-place-preserved : goal.loop-place-preserved
loop-place-preserved c =
    more-gathered c.args.processes.now c.loop-place.place c.index-processes-place.result c.loop-place-test.true
    c.index-processes-place.is c.loop-place.pairs c.push_advice.new.pairs c.loop-place.invariant
    (rw c.in-None.is at c.in_ok-push_advice.ensures)

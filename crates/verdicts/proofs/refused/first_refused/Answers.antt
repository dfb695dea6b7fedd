use Rattle.std.proofs.Common.{◌≡◌, length, subst, sym, arith}
use Rattle.verdicts.specs.Refused.{AreAcceptedBefore}
use Rattle.verdicts.proofs.Places.{all-before, before-more}
use Rattle.verdicts.proofs.refused.first_refused.Goals as goal

pub loop-place-preserved : goal.loop-place-preserved
loop-place-preserved c =
    before-more c.args.processes.now c.loop-place.place c.index-processes-place.result c.loop-place-test.true
    c.index-processes-place.is
    (rw c.in-None.is at c.in_ok-cause_of.ensures) c.loop-place.invariant

pub returns : goal.returns
returns c =
    let end : c.loop-place.place ≡ length c.args.processes.now =
    omega (arith, c.loop-place-test.false, c.loop-place.auto.place-end) in
    all-before c.args.processes.now (subst (AreAcceptedBefore c.args.processes.now) end c.loop-place.invariant)

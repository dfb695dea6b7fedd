use Rattle.std.proofs.Common.{false, ◌∙◌, ap₂, replicate, set, arith}
use Rattle.alive_regroup.specs.declared.neighbour.Neighbour.TheVariants.{Absent}
use Rattle.alive_regroup.specs.Watching.{is_up}
use Rattle.alive_regroup.proofs.Mapped.{mapped-all, mapped-more}
use Rattle.alive_regroup.proofs.watch.all_up.Goals as goal

pub loop-place-preserved : goal.loop-place-preserved
loop-place-preserved c =
    ap₂ (λ items one. set items c.loop-place.place one) c.loop-place.invariant c.is_up.ensures
    ∙ mapped-more is_up c.args.neighbours.now (replicate 16 false) c.loop-place.place Absent
    (omega (arith, c.told-neighbours, c.loop-place-test.true)) c.loop-place-test.true

pub returns : goal.returns
returns c =
    c.loop-place.invariant
    ∙ mapped-all is_up c.args.neighbours.now (replicate 16 false) c.loop-place.place
    (omega (arith, c.told-neighbours, c.loop-place-test.false)) (omega (arith, c.loop-place-test.false))

use Rattle.std.proofs.Common.{◌∙◌, ap, get_or, set, arith}
use Rattle.alive_regroup.specs.declared.neighbour.Neighbour.TheVariants.{Absent}
use Rattle.alive_regroup.specs.Watching.{neighbour_after_up_of}
use Rattle.alive_regroup.proofs.Mapped.{mapped-in-place}
use Rattle.alive_regroup.proofs.watch.none_reports.Goals as goal

pub loop-place-preserved : goal.loop-place-preserved
loop-place-preserved c =
    ap (set c.loop-place.neighbours c.loop-place.place) c.forget.ensures
    ∙ ap (λ items. set items c.loop-place.place
    (neighbour_after_up_of c.args.processor (get_or items c.loop-place.place Absent))) c.loop-place.invariant
    ∙ mapped-in-place (neighbour_after_up_of c.args.processor) c.args.neighbours.now c.loop-place.place Absent
    (omega (arith, c.told-neighbours, c.loop-place-test.true))

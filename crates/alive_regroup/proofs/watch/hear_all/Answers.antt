use Rattle.std.proofs.Common.{◌<◌, ◌∙◌, ℕ, List, Bool, ap, length, get_or, set, arith}
use Rattle.alive_regroup.specs.declared.neighbour.Neighbour.{Neighbour}
use Rattle.alive_regroup.specs.declared.neighbour.Neighbour.TheVariants.{Absent}
use Rattle.alive_regroup.specs.Watching.{neighbour_after_alive}
use Rattle.alive_regroup.proofs.Heard.{heard-next, heard-not}
use Rattle.alive_regroup.proofs.watch.hear_all.Goals as goal
use Rattle.alive_regroup.proofs.watch.hear_all.Goals.{then-heard-place, else-heard-place}

pub loop-place-preserved : goal.loop-place-preserved
loop-place-preserved c =
    let heard : List Bool = c.args.heard.now in
    let all : List Neighbour = c.args.neighbours.now in
    let k : ℕ = c.loop-place.place in
    let within : k < length heard = omega (arith, c.told-heard, c.loop-place-test.true) in
    let room : k < length all = omega (arith, c.told-neighbours, c.loop-place-test.true) in
    elim c.if-heard-place.branch [
      | then-heard-place w ↦
          w.neighbours-is ∙ ap (set c.loop-place.neighbours k) w.hear.ensures
          ∙ ap (λ items. set items k (neighbour_after_alive (get_or items k Absent))) c.loop-place.invariant
          ∙ heard-next heard all k within Absent room w.if-heard-place.true
      | else-heard-place w ↦
          w.neighbours-is ∙ c.loop-place.invariant ∙ heard-not heard all k within w.if-heard-place.false
    ]

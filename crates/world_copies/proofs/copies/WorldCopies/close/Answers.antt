use Rattle.std.proofs.Common.{◌∙◌, ◌<◌, ◌+◌, ap, arith, length, sym}
use Rattle.world_copies.specs.SiteWorld.{SiteWorld}
use Rattle.world_semantics.specs.World.{World}
use Rattle.world_copies.specs.Closing.{closed_from}
use Rattle.world_copies.proofs.Closes.{closes-count, closes-next}
use Rattle.world_copies.proofs.copies.WorldCopies.close.Goals as goal

pub loop-place-preserved : goal.loop-place-preserved
loop-place-preserved c =
    let s = c.loop-place.self in
    let within : c.loop-place.place < length s.world.processes =
    omega (arith, c.loop-place-test.true, c.process_count-place-end.ensures, c.loop-place.invariant.1) in (
      c.loop-place.invariant.0
          ∙ sym (ap (λ (after : SiteWorld). record after { world = closed_from (c.loop-place.place + 1) after.world })
          c.in_ok-close_process.ensures
          ∙ ap (λ (w : World). record s { world = w }) (closes-next s.world c.loop-place.place within)),
      ap (λ (after : SiteWorld). length after.world.processes) c.in_ok-close_process.ensures
          ∙ closes-count s.world c.loop-place.place ∙ c.loop-place.invariant.1,
    )

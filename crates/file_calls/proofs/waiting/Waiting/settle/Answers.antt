use Rattle.std.proofs.Common.{◌≡◌, ◌⊎◌, List, ap, arith, subst, sym, ◌∙◌}
use Rattle.gd_words.specs.declared.message.Request.{Request}
use Rattle.checkpoint_image.specs.declared.receive.RequestStanding.{RequestStanding}
use Rattle.checkpoint_image.specs.declared.receive.RequestStanding.TheVariants.{InHand, Old}
use Rattle.file_calls.specs.Queue.{IsOnePerOpener, queue_of}
use Rattle.file_calls.proofs.Openers.{sound-removed}
use Rattle.file_calls.proofs.Taking.{settled-without, settled_from}
use Rattle.file_calls.proofs.waiting.Waiting.settle.Goals as goal

pub loop-place-preserved : goal.loop-place-preserved
loop-place-preserved c = record {
  openers = c.loop-place.invariant.openers;
  sound = subst (λ (requests : List Request). IsOnePerOpener (queue_of c.loop-place.self-inside.openers requests))
      (sym c.remove-dropped.ensures.items)
      (sound-removed c.loop-place.self-inside.openers c.loop-place.self-inside.requests.items c.loop-place.place
      c.loop-place.invariant.sound);
  room = omega (arith, c.loop-place.invariant.room, c.remove-dropped.ensures.capacity);
  settled = c.loop-place.invariant.settled
      ∙ settled-without c.args.receive.now.table c.loop-place.self-inside.requests.items c.loop-place.place
      c.index.result.now (omega (arith, c.loop-place-test.true, c.len.ensures)) c.index.ensures
      (subst (λ (s : RequestStanding). (s ≡ InHand) ⊎ (s ≡ Old)) c.standing.ensures c.in-InHand.is)
      ∙ ap (λ (requests : List Request). settled_from c.args.receive.now.table requests c.loop-place.place)
      (sym c.remove-dropped.ensures.items);
}

pub invariant_of-self-in-Kept : goal.invariant_of-self-in-Kept
invariant_of-self-in-Kept c = (
  subst (λ (requests : List Request). IsOnePerOpener (queue_of c.loop-place.self-inside.openers requests))
      (sym c.remove-request.ensures.items)
      (sound-removed c.loop-place.self-inside.openers c.loop-place.self-inside.requests.items c.loop-place.place
      c.loop-place.invariant.sound),
  omega (arith, c.loop-place.invariant.room, c.remove-request.ensures.capacity),
)

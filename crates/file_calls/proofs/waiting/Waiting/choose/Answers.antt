use Rattle.std.proofs.Common.{List, arith, subst, sym}
use Rattle.gd_words.specs.declared.message.Request.{Request}
use Rattle.file_calls.specs.Queue.{IsOnePerOpener, queue_of}
use Rattle.file_calls.proofs.Openers.{sound-removed}
use Rattle.file_calls.proofs.waiting.Waiting.choose.Goals as goal

pub invariant_of-self-then-is_next : goal.invariant_of-self-then-is_next
invariant_of-self-then-is_next c = (
  subst (λ (requests : List Request). IsOnePerOpener (queue_of c.loop-place.self-inside.openers requests))
      (sym c.remove.ensures.items)
      (sound-removed c.loop-place.self-inside.openers c.loop-place.self-inside.requests.items c.loop-place.place
      c.loop-place.invariant.sound),
  omega (arith, c.loop-place.invariant.room, c.remove.ensures.capacity),
)

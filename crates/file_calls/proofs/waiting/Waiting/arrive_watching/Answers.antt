use Rattle.std.proofs.Common.{List, ap, arith, subst, sym, ◌∙◌}
use Rattle.gd_words.specs.declared.message.Request.{Request}
use Rattle.checkpoint_image.specs.Receive.{is_outdone}
use Rattle.file_calls.specs.Queue.{IsOnePerOpener, queue_of}
use Rattle.file_calls.proofs.Openers.{room, sound-came, waits-now}
use Rattle.file_calls.proofs.waiting.Waiting.arrive_watching.Goals as goal

pub push_reserved-requires : goal.push_reserved-requires
push_reserved-requires c =
    let fewer = room c.self.inside.openers c.take_out.new.waiting.items c.args.request
    (sound-came c.self.inside.openers c.self.inside.requests.items c.take_out.new.waiting.items c.args.request
    c.args.self.now c.self.view_is c.requires
    c.take_out.ensures.items c.self.invariant.0) in
    omega (arith, fewer, c.self.invariant.1, c.take_out.ensures.room)

pub invariant_of-self : goal.invariant_of-self
invariant_of-self c = (
  subst (λ (requests : List Request). IsOnePerOpener (queue_of c.self.inside.openers requests))
      (sym c.push_reserved.ensures.items)
      (sound-came c.self.inside.openers c.self.inside.requests.items c.take_out.new.waiting.items c.args.request
      c.args.self.now c.self.view_is c.requires
      c.take_out.ensures.items c.self.invariant.0),
  omega (arith, c.self.invariant.1, c.take_out.ensures.room, c.push_reserved.ensures.capacity),
)

pub returns-clause-requests : goal.returns-clause-requests
returns-clause-requests c =
    c.push_reserved.ensures.items
    ∙ waits-now c.self.inside.openers c.self.inside.requests.items c.take_out.new.waiting.items c.args.request
    c.args.self.now c.self.view_is c.take_out.ensures.items
    (sym (ap (is_outdone c.args.request) c.deref.ensures.value) ∙ sym c.is_outdone.ensures ∙ c.if-is_outdone.false)

use Rattle.std.proofs.Common.{◌∙◌, ap, sym}
use Rattle.std.specs.Option.{option_map}
use Rattle.checkpoint_image.specs.declared.receive.ReceiveBlock.{ReceiveBlock}
use Rattle.checkpoint_image.specs.Receive.{Chosen, choice_among}
use Rattle.node_copies.proofs.Choosing.{chosen-next}
use Rattle.node_copies.proofs.one.NodeCopy.take.Goals as goal

pub take-requires-clause-next : goal.take-requires-clause-next
take-requires-clause-next c =
    chosen-next c.self.inside.control.core.receive c.self.inside.waiting.requests c.in-Some.request
    (ap (λ (table : ReceiveBlock). option_map (λ (found : Chosen). found.request)
    (choice_among table c.self.inside.waiting.requests)) (sym c.receive.ensures.table)
    ∙ sym c.in-Some.ensures.request)

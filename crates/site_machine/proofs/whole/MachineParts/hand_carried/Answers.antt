use Rattle.node.specs.computed_changes.specs.Handed.{handed_done}
use Rattle.open_links.specs.sendings.specs.Seen.{message_of}
use Rattle.site_machine.proofs.Steps.{told-within}
use Rattle.site_machine.proofs.whole.MachineParts.hand_carried.Goals as goal

pub tell-requires-clause-within : goal.tell-requires-clause-within
tell-requires-clause-within c =
    told-within c.args.self.now _ _
    (handed_done c.args.self.now.site c.args.node (message_of c.args.message) c.args.self.now.world)
    c.in_ok-step.ensures.state c.in_ok-step.ensures.told
    (λ done is. c.requires.hands.messages.handed c.args.node (message_of c.args.message) done c.requires.fits is)

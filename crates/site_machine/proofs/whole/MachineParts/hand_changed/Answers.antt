use Rattle.node.specs.computed_changes.specs.Changed.{change_done}
use Rattle.site_machine.proofs.Steps.{told-within}
use Rattle.site_machine.proofs.whole.MachineParts.hand_changed.Goals as goal

pub tell-requires-clause-within : goal.tell-requires-clause-within
tell-requires-clause-within c =
    told-within c.args.self.now _ _
    (change_done c.args.self.now.site c.args.node c.args.change.now c.args.self.now.world)
    c.in_ok-step.ensures.state c.in_ok-step.ensures.told
    (λ done is. c.requires.hands.messages.changed c.args.node c.args.change.now done c.requires.fits is)

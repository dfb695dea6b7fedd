use Rattle.node.specs.computed_changes.specs.Entered.{enter_done}
use Rattle.site_machine.proofs.Steps.{answered, told-within}
use Rattle.site_machine.proofs.whole.MachineParts.enter.Goals as goal

pub tell-requires-clause-within : goal.tell-requires-clause-within
tell-requires-clause-within c =
    told-within c.args.self.now _ _ (enter_done c.args.self.now.site c.args.terminal c.args.self.now.world)
    c.in_ok-step.ensures.state c.in_ok-step.ensures.told
    (c.requires.messages.enters c.args.terminal)

pub returns : goal.returns
returns c =
    answered c.args.self.now _ _ _ (enter_done c.args.self.now.site c.args.terminal c.args.self.now.world)
    c.in_ok-step.ensures.state c.in_ok-step.ensures.told c.in_ok-effect.ensures

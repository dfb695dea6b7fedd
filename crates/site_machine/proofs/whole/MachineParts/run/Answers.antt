use Rattle.node.specs.world_semantics.specs.Running.{run_done}
use Rattle.site_machine.proofs.Steps.{answered, told-within}
use Rattle.site_machine.proofs.whole.MachineParts.run.Goals as goal

pub tell-requires-clause-within : goal.tell-requires-clause-within
tell-requires-clause-within c =
    told-within c.args.self.now _ _ (run_done c.args.self.now.site c.args.number c.args.self.now.world)
    c.in_ok-step.ensures.state c.in_ok-step.ensures.told
    (c.requires.messages.runs c.args.number)

pub returns : goal.returns
returns c =
    answered c.args.self.now _ _ _ (run_done c.args.self.now.site c.args.number c.args.self.now.world)
    c.in_ok-step.ensures.state c.in_ok-step.ensures.told c.in_ok-effect.ensures

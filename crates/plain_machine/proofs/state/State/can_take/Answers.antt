use Rattle.std.proofs.Common.{◌∙◌, ap, sym}
use Rattle.plain_machine.specs.Stillness.{has_waiting}
use Rattle.plain_machine.proofs.Waiting.{can-take}
use Rattle.plain_machine.proofs.state.State.can_take.Goals as goal

pub returns : goal.returns
returns c =
    c.has_waiting.ensures ∙ ap has_waiting c.slots.ensures
    ∙ sym (can-take c.args._wires.now c.args.self.now c.args.number c.args.one.now c.requires.there c.requires.stands)

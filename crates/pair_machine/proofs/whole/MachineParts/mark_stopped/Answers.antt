use Rattle.std.proofs.Common.{◌∙◌, ap, length, sym}
use Rattle.message_wires.specs.Play.{MachineState, some_has_stopped}
use Rattle.pair_machine.proofs.Unmarked.{none-marked}
use Rattle.pair_machine.proofs.whole.MachineParts.mark_stopped.Goals as goal

pub returns-else-some_has_stopped : goal.returns-else-some_has_stopped
returns-else-some_has_stopped c =
    sym (none-marked c.args.node 0 (length c.args.self.now.world.stopped) c.args.self.now
    (ap some_has_stopped (sym (ap (λ (s : MachineState). s.world.stopped) c.self.view_is))
    ∙ sym c.some_has_stopped.ensures
    ∙ c.if-some_has_stopped.false))

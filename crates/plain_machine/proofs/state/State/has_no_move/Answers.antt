use Rattle.std.proofs.Common.{◌<◌, ◌∙◌, sym, length, arith}
use Rattle.plain_machine.specs.Rounds.{next_move}
use Rattle.plain_machine.proofs.Sweeps.{none_of-after}
use Rattle.plain_machine.proofs.state.State.has_no_move.Goals as goal

pub loop-number-preserved : goal.loop-number-preserved
loop-number-preserved c =
    let within : c.loop-number.number < length c.args.self.now.processes = omega arith in
    c.loop-number.invariant
    ∙ none_of-after c.args.wires.now c.args.self.now next_move c.loop-number.number (length c.args.self.now.processes)
    within (sym c.if-can_move.ensures)

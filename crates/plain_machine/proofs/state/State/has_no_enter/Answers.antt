use Rattle.std.proofs.Common.{◌<◌, ◌∙◌, sym, length, arith}
use Rattle.plain_machine.specs.Rounds.{enter_of}
use Rattle.plain_machine.proofs.Sweeps.{none_of-after}
use Rattle.plain_machine.proofs.state.State.has_no_enter.Goals as goal

pub loop-terminal-preserved : goal.loop-terminal-preserved
loop-terminal-preserved c =
    let within : c.loop-terminal.terminal < length c.args.wires.now.terminals =
    omega (arith, c.loop-terminal-test.true, c.terminal_count-terminal-end.ensures) in
    c.loop-terminal.invariant ∙ none_of-after c.args.wires.now c.args.self.now enter_of c.loop-terminal.terminal
    (length c.args.wires.now.terminals) within (sym c.if-can_enter.ensures)

use Rattle.std.proofs.Common.{◌<◌, ◌∙◌, ap, arith, is_none, length, not, sym}
use Rattle.process_copies.specs.computed_changes.specs.Entered.{enter_done}
use Rattle.world_copies.proofs.Sweeps.{all-after}
use Rattle.world_copies.proofs.copies.WorldCopies.none_enters.Goals as goal

pub loop-terminal-preserved : goal.loop-terminal-preserved
loop-terminal-preserved c =
    let s = c.args.self.now in
    let within : c.loop-terminal.terminal < length s.world.terminals =
    omega (arith, c.loop-terminal-test.true, c.terminal_count-terminal-end.ensures) in
    c.loop-terminal.invariant
    ∙ all-after (λ terminal. is_none (enter_done s.site terminal s.world)) c.loop-terminal.terminal
    (length s.world.terminals) within
    (ap not (sym c.if-can_enter.ensures))

use Rattle.std.proofs.Common.{◌∙◌}
use Rattle.world_copies.specs.Again.{terminal_asking}
use Rattle.world_copies.proofs.Again.{terminals-step}
use Rattle.world_copies.proofs.copies.WorldCopies.terminals_ask.Goals as goal

pub loop-number-preserved : goal.loop-number-preserved
loop-number-preserved c =
    terminals-step (terminal_asking c.args.self.now.site c.args.self.now.world c.args.node c.args.processor)
    c.args.node c.loop-number.number
    c.args.self.now.world.terminals c.loop-number.again c.terminal_asks.new.again c.in_ok-terminal_asks.ensures
    ∙ c.loop-number.invariant

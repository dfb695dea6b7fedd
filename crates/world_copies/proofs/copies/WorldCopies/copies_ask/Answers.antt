use Rattle.std.proofs.Common.{◌∙◌}
use Rattle.process_copies.specs.letters.specs.Again.{asks_again}
use Rattle.world_copies.proofs.Again.{copies-step}
use Rattle.world_copies.proofs.copies.WorldCopies.copies_ask.Goals as goal

pub loop-number-preserved : goal.loop-number-preserved
loop-number-preserved c =
    copies-step (asks_again c.args.self.now.site c.args.self.now.world c.args.node c.args.processor) c.args.node
    c.loop-number.number
    c.args.self.now.world.processes c.loop-number.again c.copy_asks.new.again c.copy_asks-in-loop-number.new.again
    c.in_ok-copy_asks.ensures c.in_ok-copy_asks-2.ensures
    ∙ c.loop-number.invariant

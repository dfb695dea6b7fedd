use Rattle.std.proofs.Common.{◌∙◌}
use Rattle.process_copies.specs.letters.specs.Again.{tells_again}
use Rattle.world_copies.proofs.Again.{copies-step}
use Rattle.world_copies.proofs.copies.WorldCopies.copies_tell.Goals as goal

pub loop-number-preserved : goal.loop-number-preserved
loop-number-preserved c =
    copies-step (tells_again c.args.self.now.site c.args.self.now.world c.args.node c.args.processor) c.args.node
    c.loop-number.number
    c.args.self.now.world.processes c.loop-number.again c.copy_tells.new.again c.copy_tells-in-loop-number.new.again
    c.in_ok-copy_tells.ensures c.in_ok-copy_tells-2.ensures
    ∙ c.loop-number.invariant

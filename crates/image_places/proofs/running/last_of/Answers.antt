use Rattle.std.proofs.Common.{sym, ◌∙◌}
use Rattle.std.specs.Option.{option_map}
use Rattle.image_places.specs.Running.{running_now}
use Rattle.image_places.proofs.Frames.{frame_more}
use Rattle.image_places.proofs.running.last_of.Goals as goal

pub loop-preserved : goal.loop-preserved
loop-preserved c =
    sym (frame_more c.args.program.now c.loop.counter c.args.count c.loop.left.now c.in_ok-frame.rest.now
    (option_map running_now c.loop.last) (running_now c.in_ok-frame.frame) c.loop-test.true c.in_ok-frame.ensures)
    ∙ c.loop.invariant

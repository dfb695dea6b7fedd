use Rattle.std.proofs.Common.{◌≡◌, ◌-◌, ◌+◌, suc, sym, ◌∙◌, arith}
use Rattle.checkpoint_image.specs.Reading.{opener_in}
use Rattle.checkpoint_image.proofs.Turns.{turns}
use Rattle.checkpoint_image.proofs.reading.many_openers.Goals as goal

pub loop-turn-preserved : goal.loop-turn-preserved
loop-turn-preserved c =
    let count : c.args.count - c.loop-turn._turn ≡ suc (c.args.count - (c.loop-turn._turn + 1)) =
    omega (arith, c.loop-turn-test.true) in
    rw c.in_ok-push.ensures.ok
    (sym (turns opener_in c.loop-turn.openers _ _ c.loop-turn.left.now c.in_ok-opener.rest.now c.in_ok-opener.opener
    count c.in_ok-opener.ensures) ∙ c.loop-turn.invariant)

use Rattle.std.proofs.Common.{◌≡◌, ◌-◌, ◌+◌, suc, sym, ◌∙◌, arith}
use Rattle.change_layout.specs.Reading.{change_in}
use Rattle.receive_changes.specs.checkpoint_image.proofs.Turns.{turns}
use Rattle.change_layout.proofs.reading.many_changes.Goals as goal

pub loop-turn-preserved : goal.loop-turn-preserved
loop-turn-preserved c =
    let count : c.args.count - c.loop-turn._turn ≡ suc (c.args.count - (c.loop-turn._turn + 1)) =
    omega (arith, c.loop-turn-test.true) in
    rw c.in_ok-push.ensures.ok
    (sym (turns change_in c.loop-turn.changes _ _ c.loop-turn.left.now c.in_ok-change.rest.now c.in_ok-change.change
    count c.in_ok-change.ensures) ∙ c.loop-turn.invariant)

use Rattle.tal_tree.specs.declared.act.Act.TheVariants.{Step}
use Rattle.unfailing_judge.proofs.Settling.{as-it-was, first-gone, none-gone}
use Rattle.unfailing_judge.proofs.Ways.{none-of-none}
use Rattle.unfailing_judge.specs.Replays.{due_in}
use Rattle.unfailing_judge.proofs.settle.first.Goals as goal

pub loop-place-init : goal.loop-place-init
loop-place-init c =
    let replay = c.args.replay.now in record {
      same = as-it-was replay;
      none = none-of-none replay.plain.site replay.plain.state (due_in c.args.shown.now replay);
    }

pub returns-then-goes : goal.returns-then-goes
returns-then-goes c =
    first-gone c.args.shown.now c.args.acts.now c.loop-place.place (Step 0) c.args.replay.now c.loop-place.replay
    c.goes.new.replay c.loop-place-test.true c.loop-place.invariant.same c.loop-place.invariant.none c.goes.result
    c.if-goes.true c.goes.ensures

pub loop-place-preserved : goal.loop-place-preserved
loop-place-preserved c =
    let both = none-gone c.args.shown.now c.args.acts.now c.loop-place.place (Step 0) c.args.replay.now
    c.loop-place.replay c.goes.new.replay c.loop-place-test.true c.loop-place.invariant.same
    c.loop-place.invariant.none c.goes.result c.if-goes.false c.goes.ensures in
    record { same = both.0; none = both.1 }

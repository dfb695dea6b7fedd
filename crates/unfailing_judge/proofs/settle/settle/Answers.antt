use Rattle.std.proofs.Common.{◌∷◌, ◌+◌, [], List, ap, arith, drop, get_or, length, length-append, subst}
use Rattle.tal_tree.specs.declared.act.Act.{Act}
use Rattle.tal_tree.specs.declared.act.Act.TheVariants.{Step}
use Rattle.unfailing_judge.specs.Replays.{GoesInTurn}
use Rattle.unfailing_judge.specs.declared.replay.Replay.{Replay}
use Rattle.unfailing_judge.proofs.Settling.{next-goes, next-waits, way-carried}
use Rattle.unfailing_judge.proofs.settle.settle.Goals as goal
use Rattle.unfailing_judge.proofs.settle.settle.Goals.{then-goes, else-goes+in_ok-push}

pub loop-act-preserved : goal.loop-act-preserved
loop-act-preserved c =
    let site = c.args.site.now in
    let acts = c.args.acts.now in
    let shown = c.args.shown.now in
    let at = c.loop-act.act-index in
    let act = get_or acts at (Step 0) in
    let rest = drop (at + 1) acts in
    let left = c.loop-act.left.items in
    let mid = c.loop-act.replay in
    let new = c.goes.new.replay in
    let went = c.goes.result in
    let by : GoesInTurn shown left act mid new went =
    subst (λ (xs : List Act). GoesInTurn shown xs act mid new went) c.as_slice.ensures.value c.goes.ensures in
    elim c.if-goes.branch [
      | then-goes w ↦
          let on = next-goes site acts shown left at (Step 0) mid new c.loop-act-test.true c.loop-act.invariant.way
          c.loop-act.invariant.none went w.if-goes.true by in record {
            way = rw (w.left-is, w.replay-is) (way-carried site acts shown left w.go_on.new.left.items rest new
                w.go_on.new.replay on.0 w.go_on.ensures.carried);
            none = rw (w.left-is, w.replay-is) w.go_on.ensures.none;
            all = omega (
              arith,
              ap (λ (one : Replay). one.made) w.replay-is,
              ap (λ (v : _). length v.items) w.left-is,
              on.1,
              w.go_on.ensures.all,
              c.loop-act.invariant.all,
            );
          }
      | else-goes+in_ok-push w ↦
          let on = next-waits site acts shown left at (Step 0) mid new c.loop-act-test.true c.loop-act.invariant.way
          c.loop-act.invariant.none went w.if-goes.false by in record {
            way = rw (w.left-is, w.replay-is, w.in_ok-push.ensures.items) on.0;
            none = rw (w.left-is, w.replay-is, w.in_ok-push.ensures.items) on.1;
            all = omega (
              arith,
              ap (λ (one : Replay). one.made) w.replay-is,
              ap (λ (v : _). length v.items) w.left-is,
              ap length w.in_ok-push.ensures.items,
              length-append left (act ∷ []),
              on.2,
              c.loop-act.invariant.all,
            );
          }
    ]

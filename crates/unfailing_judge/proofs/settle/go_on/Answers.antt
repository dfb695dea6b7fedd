use Rattle.std.proofs.Common.{arith, subst, sym, List}
use Rattle.tal_tree.specs.declared.act.Act.{Act}
use Rattle.unfailing_judge.specs.Replays.{IsCarriedOn, IsFirstGone}
use Rattle.unfailing_judge.proofs.Settling.{carried-one}
use Rattle.unfailing_judge.proofs.settle.go_on.Goals as goal

pub acts-preserved : goal.acts-preserved
acts-preserved c =
    let shown = c.args.shown.now in
    let left = c.acts.left.items in
    let new = c.first.new.replay in
    let gone : IsFirstGone shown left c.acts.replay new c.in-Some.place =
    subst (λ (all : List Act). IsFirstGone shown all c.acts.replay new c.in-Some.place) c.as_slice.ensures.value
    c.in-Some.ensures in record {
      carried = subst (λ (all : List Act). IsCarriedOn shown c.args.left.now.items all c.args.replay.now new)
          (sym c.remove.ensures.items)
          (carried-one shown c.args.left.now.items left c.args.replay.now c.acts.replay new c.in-Some.place
          c.acts.invariant.carried gone);
      all = omega (arith, c.remove.ensures.len, gone.went.1.counted, c.acts.invariant.all);
    }

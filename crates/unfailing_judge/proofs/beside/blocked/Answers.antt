use Rattle.std.proofs.Common.{◌∙◌, sym}
use Rattle.tal_tree.specs.declared.act.Act.TheVariants.{Step}
use Rattle.unfailing_judge.proofs.Blocked.{blocked-at, possible-none, shows-nothing-at, waits-at}
use Rattle.unfailing_judge.proofs.beside.blocked.Goals as goal
use Rattle.unfailing_judge.proofs.beside.blocked.Goals.{then-not-has_actor+else-is_some, else-not-has_actor}

pub loop-place-init : goal.loop-place-init
loop-place-init c =
    record { none = possible-none c.args.replay.now.plain.site c.args.replay.now.plain.state }

pub returns-then-is_some : goal.returns-then-is_some
returns-then-is_some c =
    blocked-at c.args.left.now c.loop-place.place (Step 0) c.args.replay.now c.loop-place-test.true
    c.loop-place.invariant.none c.has_actor.result c.has_actor.ensures c.if-not-has_actor.true c.shows-shown.result
    c.shows-shown.ensures (sym c.is_some.ensures ∙ c.if-is_some.true)

pub loop-place-preserved : goal.loop-place-preserved
loop-place-preserved c = elim c.if-not-has_actor.branch [
  | then-not-has_actor+else-is_some w ↦
      record {
        none = shows-nothing-at c.args.left.now c.loop-place.place (Step 0) c.args.replay.now c.loop-place-test.true
            c.loop-place.invariant.none c.requires.none w.shows-shown.result w.shows-shown.ensures
            (sym w.is_some.ensures ∙ w.if-is_some.false);
      }
  | else-not-has_actor w ↦
      record {
        none = waits-at c.args.left.now c.loop-place.place (Step 0) c.args.replay.now c.loop-place-test.true
            c.loop-place.invariant.none c.has_actor.result c.has_actor.ensures w.if-not-has_actor.false;
      }
]

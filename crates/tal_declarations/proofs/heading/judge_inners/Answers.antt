use Rattle.std.proofs.Common.{refl}
use Rattle.tal_names.specs.declared.scope.Named.{Named}
use Rattle.tal_declarations.specs.Headings.{inner_faults, one_inner_faults, with_local, with_locals}
use Rattle.tal_names.proofs.Turns.{turn_faults, turn_after}
use Rattle.tal_declarations.proofs.heading.judge_inners.Goals as goal

pub loop-named-preserved : goal.loop-named-preserved
loop-named-preserved c = record {
  least_is = turn_faults (inner_faults c.args.outer.now) (one_inner_faults c.args.outer.now)
      (λ d (n : Named). with_local d n.name) (λ d n ns. refl)
      c.args.inner.now c.loop-named.named-index c.named-item.result c.loop-named.before c.declare_local.new.names
      c.loop-named.so_far c.judge_inner-so_far.result _
      c.named-item.is c.loop-named-test.true c.judge_inner-so_far.ensures c.in_ok-declare_local.ensures
      c.loop-named.invariant.least_is;
  state_is = turn_after with_locals (λ d (n : Named). with_local d n.name) (λ d n ns. refl)
      c.args.inner.now c.loop-named.named-index c.named-item.result c.loop-named.before c.declare_local.new.names _
      c.named-item.is c.loop-named-test.true c.in_ok-declare_local.ensures c.loop-named.invariant.state_is;
}

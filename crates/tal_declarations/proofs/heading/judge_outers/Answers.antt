use Rattle.std.proofs.Common.{refl}
use Rattle.tal_names.specs.declared.scope.Named.{Named}
use Rattle.tal_declarations.specs.Headings.{outer_faults, one_outer_faults, with_local, with_locals}
use Rattle.tal_names.proofs.Turns.{turn_faults, turn_after}
use Rattle.tal_declarations.proofs.heading.judge_outers.Goals as goal

pub loop-named-preserved : goal.loop-named-preserved
loop-named-preserved c = record {
  least_is = turn_faults (outer_faults c.args.parameters.now) (one_outer_faults c.args.parameters.now)
      (λ d (n : Named). with_local d n.name) (λ d n ns. refl)
      c.args.outer.now c.loop-named.named-index c.named-item.result c.loop-named.before c.declare_local.new.names
      c.loop-named.so_far c.judge_outer-so_far.result _
      c.named-item.is c.loop-named-test.true c.judge_outer-so_far.ensures c.in_ok-declare_local.ensures
      c.loop-named.invariant.least_is;
  state_is = turn_after with_locals (λ d (n : Named). with_local d n.name) (λ d n ns. refl)
      c.args.outer.now c.loop-named.named-index c.named-item.result c.loop-named.before c.declare_local.new.names _
      c.named-item.is c.loop-named-test.true c.in_ok-declare_local.ensures c.loop-named.invariant.state_is;
}

use Rattle.std.proofs.Common.{refl}
use Rattle.tal_syntax.specs.declared.statement.NextValue.{NextValue}
use Rattle.tal_syntax.specs.Seen.{seen_values, seen_expr}
use Rattle.tal_rules.specs.Calls.{values_faults}
use Rattle.tal_rules.specs.Expressions.{value_faults}
use Rattle.tal_names.proofs.Turns.{turn}
use Rattle.tal_rules.proofs.call.judge_values.Goals as goal

pub loop-next-preserved : goal.loop-next-preserved
loop-next-preserved c =
    turn (λ ns. values_faults c.args.scope.now (seen_values (ns)))
    (λ (n : NextValue). value_faults c.args.scope.now (seen_expr n.value)) (λ n ns. refl)
    c.args.more.now c.loop-next.next-index c.next-item.result c.loop-next.so_far c.judge_value-so_far.result _
    c.next-item.is c.loop-next-test.true c.judge_value-so_far.ensures c.loop-next.invariant

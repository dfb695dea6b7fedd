use Rattle.std.proofs.Common.{refl}
use Rattle.tal_syntax.specs.declared.statement.NextArgument.{NextArgument}
use Rattle.tal_syntax.specs.Seen.{seen_further, seen_argument}
use Rattle.tal_rules.specs.Calls.{arguments_faults, argument_faults}
use Rattle.tal_names.specs.Places.{further_arguments}
use Rattle.tal_names.proofs.Turns.{turn}
use Rattle.tal_rules.proofs.call.judge_further.Goals as goal

pub loop-next-preserved : goal.loop-next-preserved
loop-next-preserved c =
    turn (λ ns. arguments_faults c.args.scope.now (further_arguments (seen_further (ns))))
    (λ (n : NextArgument). argument_faults c.args.scope.now (seen_argument n.argument)) (λ n ns. refl)
    c.args.more.now c.loop-next.next-index c.next-item.result c.loop-next.so_far c.judge_argument-so_far.result _
    c.next-item.is c.loop-next-test.true c.judge_argument-so_far.ensures c.loop-next.invariant

use Rattle.std.proofs.Common.{refl}
use Rattle.tal_syntax.specs.declared.statement.NextArgument.{NextArgument}
use Rattle.tal_syntax.specs.Seen.{seen_argument, seen_further}
use Rattle.tal_rules.specs.Calls.{checkpoint_faults, mention_faults, with_mention}
use Rattle.tal_names.specs.Places.{name_of_argument, further_arguments}
use Rattle.tal_names.proofs.Turns.{turn_faults}
use Rattle.tal_rules.proofs.call.judge_mentions.Goals as goal

pub loop-next-preserved : goal.loop-next-preserved
loop-next-preserved c =
    turn_faults (λ d ns. checkpoint_faults c.args.scope.now d (further_arguments (seen_further ns)))
    (λ d (n : NextArgument). mention_faults c.args.scope.now d (seen_argument n.argument))
    (λ d n. with_mention d (name_of_argument (seen_argument n.argument))) (λ d n ns. refl)
    c.args.more.now c.loop-next.next-index c.next-item.result c.loop-next.before c.judge_mention.new.before
    c.loop-next.so_far c.in_ok-so_far.so_far _
    c.next-item.is c.loop-next-test.true c.in_ok-so_far.ensures.least c.in_ok-so_far.ensures.names c.loop-next.invariant

use Rattle.std.proofs.Common.{◌≡◌, drop}
use Rattle.tal_names.specs.Faults.{least}
use Rattle.tal_rules.specs.Calls.{arguments_faults}
use Rattle.tal_names.specs.Places.{further_arguments}
use Rattle.tal_syntax.specs.Seen.{seen_further}
use Rattle.tal_rules.proofs.call.judge_further.Given as goal

-- with what is left the least so far is that of all
abbrev pub invariant-loop-next : goal.invariant-loop-next
invariant-loop-next l = least l.so_far (arguments_faults l.scope
    (further_arguments (seen_further (drop l.next-index l.more))))
    ≡ least l.initial.so_far (arguments_faults l.scope (further_arguments (seen_further (l.more))))

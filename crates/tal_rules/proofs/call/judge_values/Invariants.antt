use Rattle.std.proofs.Common.{◌≡◌, drop}
use Rattle.tal_names.specs.Faults.{least}
use Rattle.tal_rules.specs.Calls.{values_faults}
use Rattle.tal_syntax.specs.Seen.{seen_values}
use Rattle.tal_rules.proofs.call.judge_values.Given as goal

-- with what is left the least so far is that of all
abbrev pub invariant-loop-next : goal.invariant-loop-next
invariant-loop-next l = least l.so_far (values_faults l.scope (seen_values (drop l.next-index l.more)))
    ≡ least l.initial.so_far (values_faults l.scope (seen_values (l.more)))

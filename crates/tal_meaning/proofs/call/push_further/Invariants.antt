use Rattle.std.proofs.Common.{◌≡◌, ◌++◌, drop}
use Rattle.tal_names.specs.Places.{further_arguments}
use Rattle.tal_meaning.specs.Calls.{values_of_arguments}
use Rattle.tal_syntax.specs.Seen.{seen_further}
use Rattle.tal_meaning.proofs.call.push_further.Given as goal

-- those so far and those that are left are all
abbrev pub invariant-loop-next : goal.invariant-loop-next
invariant-loop-next l = l.values ++ values_of_arguments l.scope
    (further_arguments (seen_further (drop l.next-index l.more)))
    ≡ l.initial.values ++ values_of_arguments l.scope (further_arguments (seen_further l.more))

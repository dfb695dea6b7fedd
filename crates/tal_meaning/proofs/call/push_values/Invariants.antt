use Rattle.std.proofs.Common.{◌≡◌, ◌++◌, drop}
use Rattle.tal_meaning.specs.Calls.{values_of}
use Rattle.tal_syntax.specs.Seen.{seen_values}
use Rattle.tal_meaning.proofs.call.push_values.Given as goal

-- those so far and those that are left are all
abbrev pub invariant-loop-next : goal.invariant-loop-next
invariant-loop-next l = l.values ++ values_of l.scope (seen_values (drop l.next-index l.more))
    ≡ l.initial.values ++ values_of l.scope (seen_values l.more)

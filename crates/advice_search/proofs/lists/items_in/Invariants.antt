use Rattle.std.proofs.Common.{◌≡◌}
use Rattle.advice.specs.reason_dues.specs.Sets.{has_number}
use Rattle.advice_search.specs.Lists.{numbers_below}
use Rattle.advice_search.proofs.lists.items_in.Given as goal

abbrev pub invariant-loop-item : goal.invariant-loop-item
invariant-loop-item l = l.items ≡ numbers_below (λ n. has_number l.set n) l.item

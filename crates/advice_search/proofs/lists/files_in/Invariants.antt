use Rattle.std.proofs.Common.{◌≡◌}
use Rattle.advice.specs.reason_dues.specs.Sets.{has_number}
use Rattle.advice_search.specs.Lists.{numbers_below}
use Rattle.advice_search.proofs.lists.files_in.Given as goal

abbrev pub invariant-loop-file : goal.invariant-loop-file
invariant-loop-file l = l.files ≡ numbers_below (λ n. has_number l.set n) l.file

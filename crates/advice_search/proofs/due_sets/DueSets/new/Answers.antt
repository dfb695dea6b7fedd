use Rattle.std.proofs.Common.{◌≡◌, List, false, subst, sym, replicate}
use Rattle.advice.specs.reason_dues.specs.declared.number_set.Numbers.{Numbers}
use Rattle.advice_search.specs.Gathered.{has_in}
use Rattle.advice_search.proofs.Sets.{none-in}
use Rattle.advice_search.proofs.due_sets.DueSets.new.Goals as goal

pub returns-clause-none : goal.returns-clause-none
returns-clause-none c = λ number n.
    let all : c.in_ok-sets.sets.items ≡ replicate 2001 c.none.result =
    c.in_ok-sets.ensures.items_if_clones_equal (λ y same. same) in
    subst (λ (sets : List Numbers). has_in sets number n ≡ false) (sym all)
    (none-in c.none.result 2001 number n c.none.ensures)

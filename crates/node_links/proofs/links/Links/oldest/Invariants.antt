use Rattle.node_links.specs.Linking.{is_wanted}
use Rattle.node_links.proofs.Searched.{IsSearched}
use Rattle.node_links.proofs.links.Links.oldest.Given as goal

abbrev pub invariant-loop-number : goal.invariant-loop-number
invariant-loop-number l =
    (goal.iterator-loop-number).can_next l.number-iterator ×
    (goal.iterator-loop-number).is_finite l.number-iterator ×
    IsSearched (is_wanted l.wanted) l.self.table l.oldest l.number-iterator

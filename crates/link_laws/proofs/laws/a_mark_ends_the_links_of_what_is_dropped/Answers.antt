use Rattle.link_laws.proofs.Marks.{mark-keeps}
use Rattle.link_laws.proofs.laws.a_mark_ends_the_links_of_what_is_dropped.Goals as goal

pub returns : goal.returns
returns c = λ site w next node processor at one sendings change waits.
    mark-keeps site w next node processor at one sendings change waits

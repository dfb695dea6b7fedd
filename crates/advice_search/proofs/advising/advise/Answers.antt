use Rattle.advice.specs.due_search.proofs.Numbering.{walked-low}
use Rattle.advice_search.proofs.advising.advise.Goals as goal

pub advise_by-requires-clause-numbers : goal.advise_by-requires-clause-numbers
advise_by-requires-clause-numbers c =
    walked-low c.args.program.now c.in-Ok.flow c.in-Ok.ensures.1 c.requires.ordered c.requires.limits

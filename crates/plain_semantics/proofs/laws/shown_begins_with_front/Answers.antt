use Rattle.plain_semantics.proofs.Runs.{shown-begins}
use Rattle.plain_semantics.proofs.laws.shown_begins_with_front.Goals as goal

pub returns : goal.returns
returns c = shown-begins

use Rattle.world_semantics.proofs.Reached.{leads-grow}
use Rattle.world_semantics.proofs.laws.shown_and_kept_stay.Goals as goal

pub returns : goal.returns
returns c = record {
  shown = λ site events w end l. (leads-grow l).shown;
  kept = λ site events w end l. (leads-grow l).kept;
}

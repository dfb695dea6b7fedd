use Rattle.path_semantics.proofs.InOrder.{depth-is, size-is}
use Rattle.path_semantics.proofs.laws.bounds_follow_calls.Goals as goal

pub returns : goal.returns
returns c = record { depth = depth-is; size = size-is }

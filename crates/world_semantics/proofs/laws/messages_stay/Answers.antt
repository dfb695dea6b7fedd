use Rattle.world_semantics.proofs.Reached.{leads-grow, pair-later}
use Rattle.world_semantics.proofs.laws.messages_stay.Goals as goal

pub returns : goal.returns
returns c = record {
  requests = λ site events w end l. (leads-grow l).requests;
  replies = λ site events w end l. (leads-grow l).replies;
  checkpoints =
      λ site events w end number before after l there then. (pair-later l number before after there then).checkpoints;
  takens = λ site events w end number before after l there then. (pair-later l number before after there then).takens;
}

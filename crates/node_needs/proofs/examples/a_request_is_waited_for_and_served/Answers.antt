use Rattle.node_needs.proofs.Needed as needed
use Rattle.node_needs.proofs.examples.a_request_is_waited_for_and_served.Goals as goal

pub returns : goal.returns
returns c = record {
  nowhere = needed.nowhere;
  entered = needed.entered;
  not_yet = needed.not_yet;
  came = needed.came;
  elsewhere = needed.elsewhere;
  taken = needed.taken;
  watched = needed.watched;
  answered = needed.answered;
  awaited = needed.awaited;
}

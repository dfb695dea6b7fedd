use Rattle.node_needs.proofs.Needed as needed
use Rattle.node_needs.proofs.examples.a_takeover_has_the_request_in_hand.Goals as goal

pub returns : goal.returns
returns c = record {
  before = needed.before;
  lost = needed.lost;
  gone = needed.gone;
  awaited = needed.awaited_on;
}

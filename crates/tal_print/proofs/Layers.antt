-- One more layer of a tree, and a front and a back of its procedures, as rules.
use Rattle.tal_pieces.proofs.Values.Layers.{weight_front, weight_back, pieces_read, pieces_minus, pieces_two}
use Rattle.tal_pieces.proofs.Values.Layers.{pieces_not, pieces_and, pieces_or, weight_read, weight_minus, weight_two}
use Rattle.tal_pieces.proofs.Values.Layers.{weight_not, weight_and, weight_or}

pub ruleset fronts = (weight_front, weight_back)

pub ruleset layers = (
  pieces_read,
  pieces_minus,
  pieces_two,
  pieces_not,
  pieces_and,
  pieces_or,
  weight_read,
  weight_minus,
  weight_two,
  weight_not,
  weight_and,
  weight_or,
)

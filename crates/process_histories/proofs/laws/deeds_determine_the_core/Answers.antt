use Rattle.process_histories.proofs.Deeds.{done-one, done-before, done-last}
use Rattle.process_histories.proofs.laws.deeds_determine_the_core.Goals as goal

pub returns : goal.returns
returns c = record {
  one = λ site number spec deeds core other done again. done-one done again;
  before = λ site number spec since deeds core done. done-before since deeds done;
  last = λ site number spec deed deeds core next done more. done-last done more;
}

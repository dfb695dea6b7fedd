use Rattle.process_histories.proofs.Short.{requests-short}
use Rattle.process_histories.proofs.Whole.{done-whole, found-eight}
use Rattle.process_histories.proofs.laws.a_history_leaves_a_whole_state.Goals as goal

pub returns : goal.returns
returns c = record {
  whole = λ site number spec deeds core regular done bounded. done-whole regular done bounded;
  asked = λ site number spec deeds core file words done among. requests-short done file words among;
  found = λ site number spec deeds core call done. found-eight call done;
}

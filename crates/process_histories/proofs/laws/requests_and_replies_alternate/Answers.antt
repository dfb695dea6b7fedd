use Rattle.process_histories.proofs.Counts.{asked-count, taken-count, done-stands, take-free}
use Rattle.process_histories.proofs.laws.requests_and_replies_alternate.Goals as goal

pub returns : goal.returns
returns c = record {
  files = λ site number spec deeds core file regular done. asked-count regular done file;
  openers = λ site number spec deeds core place done. taken-count done place;
  in_hand = λ site number spec deeds core done. (done-stands done).hand;
  take = λ site number spec deeds core done at. take-free done at;
}

use Rattle.process_histories.proofs.Counts.{taken-number, next-number}
use Rattle.process_histories.proofs.laws.numbers_count_requests.Goals as goal

pub returns : goal.returns
returns c = record {
  taken = λ site number spec deeds core place block done there. taken-number done place block there;
  next = λ site number spec deeds core file next done there. next-number done file next there;
}

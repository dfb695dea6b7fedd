use Rattle.plain_histories.proofs.Counted.{booked-count}
use Rattle.plain_histories.proofs.laws.deeds_count_acts.Goals as goal

pub returns : goal.returns
returns c = λ site acts shown ledger number booked. booked-count booked number

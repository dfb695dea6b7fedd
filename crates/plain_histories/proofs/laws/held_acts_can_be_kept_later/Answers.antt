use Rattle.plain_histories.proofs.Held.{held-booked}
use Rattle.plain_histories.proofs.laws.held_acts_can_be_kept_later.Goals as goal

pub returns : goal.returns
returns c = λ site kept held shown ledger number spec deeds core booked there is done. held-booked booked there is done

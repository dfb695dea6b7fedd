use Rattle.reason_dues.proofs.Bits.{all-has}
use Rattle.reason_dues.proofs.number_set.Numbers.all.Goals as goal

pub returns : goal.returns
returns c = all-has

use Rattle.reason_dues.proofs.Bits.{or-has}
use Rattle.reason_dues.proofs.number_set.Numbers.or.Goals as goal

pub returns : goal.returns
returns c = or-has c.args.self.bits c.args.other.bits

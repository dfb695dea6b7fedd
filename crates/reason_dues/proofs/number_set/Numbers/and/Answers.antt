use Rattle.reason_dues.proofs.Bits.{and-has}
use Rattle.reason_dues.proofs.number_set.Numbers.and.Goals as goal

pub returns : goal.returns
returns c = and-has c.args.self.bits c.args.other.bits

use Rattle.std.proofs.Common.{arith}
use Rattle.reason_dues.proofs.Bits.{other-has}
use Rattle.reason_dues.proofs.number_set.Numbers.others.Goals as goal

pub returns : goal.returns
returns c = λ n small. other-has c.args.self.bits n (omega arith) small

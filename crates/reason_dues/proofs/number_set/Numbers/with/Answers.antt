use Rattle.reason_dues.proofs.Bits.{with-has}
use Rattle.reason_dues.proofs.number_set.Numbers.with.Goals as goal

pub returns-then-number-lt64 : goal.returns-then-number-lt64
returns-then-number-lt64 c = λ n small. with-has c.args.self.bits c.args.number n c.if-number-lt64.true small

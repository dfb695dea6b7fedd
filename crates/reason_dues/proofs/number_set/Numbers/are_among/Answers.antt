use Rattle.std.proofs.Common.{ℕ, ◌==◌}
use Rattle.std.specs.Prelude.{IsTrue, bit_or}
use Rattle.reason_dues.specs.Sets.{has_number}
use Rattle.reason_dues.proofs.Bits.{among-has, when-true}
use Rattle.reason_dues.proofs.number_set.Numbers.are_among.Goals as goal

pub returns : goal.returns
returns c = when-true (bit_or c.args.self.bits c.args.others.bits == c.args.others.bits)
    ((n : ℕ) → IsTrue (has_number c.args.self n) → IsTrue (has_number c.args.others n))
    (λ same n. among-has c.args.self.bits c.args.others.bits n same)

use Rattle.std.proofs.Common.{arith}
use Rattle.deck_lines.proofs.NumberLemmas.{nine_digits}
use Rattle.deck_lines.proofs.numbers.digits_value.Goals as goal

pub overflow_mul-value : goal.overflow_mul-value
overflow_mul-value c = omega (arith, nine_digits c.loop-c.c-index c.loop-c.value (omega arith) c.loop-c.invariant.1)

pub overflow_add-value : goal.overflow_add-value
overflow_add-value c =
    omega (
      arith,
      nine_digits c.loop-c.c-index c.loop-c.value (omega arith) c.loop-c.invariant.1,
      c.type_inv.digits c.loop-c.c-index,
    )
